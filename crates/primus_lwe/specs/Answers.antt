-- What each call promises.
use Rattle.std.specs.Prelude.{List, ◌≡◌, ℕ, ℤ, pos, length, get_or, Result}
use Rattle.scheme.specs.Lwe.{Key, secret_of, encrypted, phase_of, Errors, error_at}
use Rattle.scheme.specs.Codec.{decode}
use Rattle.scheme.specs.Tally.{Fresh}
use Rattle.primus_reduce.specs.Ring.{size_of}
use Rattle.codec_words.specs.declared.embedding.PlaintextEmbedding.{PlaintextEmbedding}
use Rattle.codec_words.specs.Embedding.{encode_word}
use Rattle.check_order.specs.declared.refusal.Refusal.{Refusal}
use Rattle.check_order.specs.Answer.{answer}
use Rattle.lwe_tag.specs.declared.LweTag.{LweTag}
use Rattle.lwe_tag.specs.Answers.{tag_from, WritesTagged}
use Rattle.lwe_parameters.specs.declared.parameter.LweEncryptionParameters.{LweEncryptionParameters}
use Rattle.lwe_parameters.specs.declared.parameter.LwePhaseParameters.{LwePhaseParameters}
use Rattle.lwe_parameters.specs.declared.parameter.LweDecryptionParameters.{LweDecryptionParameters}
use Rattle.lwe_parameters.specs.declared.parameter.LweParameters.{LweParameters}
use Rattle.lwe_refusals.specs.Rows.{encrypt_rows, phase_rows, message_rows, decrypt_rows}

-- ---- a plaintext, and its phase

-- "b = ⟨a, s⟩ + e + p": the output holds a and b, and has tally E
pub record Encrypts (P : LweEncryptionParameters) (key : Key) (a : List ℕ) (es : Errors) (p : ℕ) (before : List ℕ)
    (given : Result LweTag Refusal) (after : List ℕ) : Type 0 where
  pub writes :
      WritesTagged (encrypt_rows P key a es p (length before)) (tag_from (Fresh P.error_limit))
      (encrypted (size_of P.modulus) P.dimension.0 a (secret_of key) (error_at (size_of P.modulus) es 0) (pos p))
      before given after

-- "Phase = b − ⟨a, s⟩"
pub record TakesPhase (P : LwePhaseParameters) (key : Key) (x : List ℕ) (given : Result ℕ Refusal) : Type 0 where
  pub is : given ≡ answer (phase_rows P key x) (phase_of (size_of P.modulus) P.dimension.0 x (secret_of key))

-- ---- a message below t

-- the plaintext of the message x, and those of the messages xs
abbrev pub encoded : PlaintextEmbedding → LweParameters → ℕ → ℤ
encoded g P x = pos (encode_word g (size_of P.modulus) P.plaintext_modulus x)

abbrev pub encodings : PlaintextEmbedding → LweParameters → List ℕ → ℕ → ℤ
encodings g P xs i = encoded g P (get_or xs i 0)

-- "b = ⟨a, s⟩ + e + p" of the plaintext p of x, with tally E
pub record EncryptsMessage (P : LweParameters) (g : PlaintextEmbedding) (key : Key) (a : List ℕ) (es : Errors) (x : ℕ)
    (before : List ℕ) (given : Result LweTag Refusal) (after : List ℕ) : Type 0 where
  pub writes :
      WritesTagged (message_rows P key a es x (length before)) (tag_from (Fresh P.error_limit))
      (encrypted (size_of P.modulus) P.dimension.0 a (secret_of key) (error_at (size_of P.modulus) es 0)
      (encoded g P x))
      before given after

-- the message is the decoded phase
pub record Decrypts (P : LweDecryptionParameters) (key : Key) (x : List ℕ) (given : Result ℕ Refusal) : Type 0 where
  pub is :
      given ≡ answer (decrypt_rows P key x)
      (decode (size_of P.modulus) P.plaintext_modulus
      (phase_of (size_of P.modulus) P.dimension.0 x (secret_of key)))
