-- What each call promises.
use Rattle.std.specs.Prelude.{List, ℕ, ◌-◌, length, Result}
use Rattle.scheme.specs.Numbers.{tabulate}
use Rattle.scheme.specs.Lwe.{words, packed, packed_phase, Errors, error_at}
use Rattle.scheme.specs.Codec.{decode}
use Rattle.scheme.specs.Tally.{Packed}
use Rattle.scheme.specs.Checks.{Writes}
use Rattle.primus_reduce.specs.Ring.{size_of}
use Rattle.codec_words.specs.declared.embedding.PlaintextEmbedding.{PlaintextEmbedding}
use Rattle.check_order.specs.declared.refusal.Refusal.{Refusal}
use Rattle.lwe_tag.specs.declared.LweTag.{LweTag}
use Rattle.lwe_tag.specs.Answers.{tag_from, WritesTagged}
use Rattle.lwe_parameters.specs.declared.parameter.LweEncryptionParameters.{LweEncryptionParameters}
use Rattle.lwe_parameters.specs.declared.parameter.LweParameters.{LweParameters}
use Rattle.lwe_parameters.specs.declared.parameter.LwePhaseParameters.{LwePhaseParameters}
use Rattle.lwe_parameters.specs.declared.parameter.LweDecryptionParameters.{LweDecryptionParameters}
use Rattle.lwe_packed_refusals.specs.Rows.{packed_rows, packed_message_rows, packed_phase_rows, packed_decrypt_rows}
use Rattle.primus_lwe.specs.Answers.{encodings}

-- ---- encryption

-- "Packed: count c from 0 to n, n masks, then c bodies"
pub record EncryptsPacked (P : LweEncryptionParameters) (s a : List ℕ) (es : Errors) (ps before : List ℕ)
    (answer : Result LweTag Refusal) (after : List ℕ) : Type 0 where
  pub writes :
      WritesTagged (packed_rows P s a es ps (length before)) (tag_from Packed)
      (packed (size_of P.modulus) P.dimension.0 (length ps) a (words s) (error_at (size_of P.modulus) es) (words ps))
      before answer after

-- each body holds the plaintext of a message
pub record EncryptsPackedMessages (P : LweParameters) (g : PlaintextEmbedding) (s a : List ℕ) (es : Errors)
    (xs before : List ℕ) (answer : Result LweTag Refusal) (after : List ℕ) : Type 0 where
  pub writes :
      WritesTagged (packed_message_rows P s a es xs (length before)) (tag_from Packed)
      (packed (size_of P.modulus) P.dimension.0 (length xs) a (words s) (error_at (size_of P.modulus) es)
      (encodings g P xs))
      before answer after

-- ---- decryption

-- the phase of each body
pub record TakesPackedPhases (P : LwePhaseParameters) (s x before : List ℕ) (r : ℕ)
    (after : List ℕ) : Type 0 where
  pub writes :
      Writes (packed_phase_rows P s x (length before))
      (tabulate (length x - P.dimension.0) (packed_phase (size_of P.modulus) P.dimension.0 x (words s)))
      before r after

-- each message is the decoded phase of a body
pub record DecryptsPacked (P : LweDecryptionParameters) (s x before : List ℕ) (r : ℕ) (after : List ℕ) : Type 0 where
  pub writes :
      Writes (packed_decrypt_rows P s x (length before))
      (tabulate (length x - P.dimension.0)
      (λ i. decode (size_of P.modulus) P.plaintext_modulus
      (packed_phase (size_of P.modulus) P.dimension.0 x (words s) i)))
      before r after
