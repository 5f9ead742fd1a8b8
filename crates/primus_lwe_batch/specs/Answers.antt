-- What each call on a batch promises. Masks and errors are lent in order of the rows.
use Rattle.std.specs.Prelude.{List, ℕ, ◌+◌, ◌/◌, length, Result}
use Rattle.scheme.specs.Numbers.{tabulate}
use Rattle.scheme.specs.Lwe.{Key, secret_of, encrypted_rows, phase_of, row_of, Errors, error_at}
use Rattle.scheme.specs.Codec.{decode}
use Rattle.scheme.specs.Checks.{Writes}
use Rattle.primus_reduce.specs.Ring.{size_of}
use Rattle.codec_words.specs.declared.embedding.PlaintextEmbedding.{PlaintextEmbedding}
use Rattle.lwe_parameters.specs.declared.parameter.LwePhaseParameters.{LwePhaseParameters}
use Rattle.lwe_parameters.specs.declared.parameter.LweDecryptionParameters.{LweDecryptionParameters}
use Rattle.lwe_parameters.specs.declared.parameter.LweParameters.{LweParameters}
use Rattle.lwe_batch_refusals.specs.Rows.{encrypt_batch_rows, phases_rows, decrypt_batch_rows}
use Rattle.primus_lwe.specs.Answers.{encodings}
use Rattle.check_order.specs.declared.refusal.Refusal.{Refusal}
use Rattle.lwe_tag.specs.declared.LweTag.{LweTag}
use Rattle.lwe_tag.specs.Answers.{tag_from, WritesTagged}
use Rattle.scheme.specs.Tally.{Fresh}

-- each row is one encryption, with tally E
pub record EncryptsBatch (P : LweParameters) (g : PlaintextEmbedding) (key : Key) (masks : List ℕ) (es : Errors)
    (xs before : List ℕ) (given : Result LweTag Refusal) (after : List ℕ) : Type 0 where
  pub writes :
      WritesTagged (encrypt_batch_rows P key masks es xs (length before)) (tag_from (Fresh P.error_limit))
      (encrypted_rows (size_of P.modulus) P.dimension.0 (length xs) masks (secret_of key)
      (error_at (size_of P.modulus) es) (encodings g P xs))
      before given after

-- the phase of ciphertext i
abbrev pub batch_phase : ℕ → ℕ → Key → List ℕ → ℕ → ℕ
batch_phase q n key x i = phase_of q n (row_of n x i) (secret_of key)

pub record TakesPhases (P : LwePhaseParameters) (key : Key) (x before : List ℕ) (r : ℕ) (after : List ℕ)
    : Type 0 where
  pub writes :
      Writes (phases_rows P key x (length before))
      (tabulate (length x / (P.dimension.0 + 1)) (batch_phase (size_of P.modulus) P.dimension.0 key x))
      before r after

pub record DecryptsBatch (P : LweDecryptionParameters) (key : Key) (x before : List ℕ) (r : ℕ) (after : List ℕ)
    : Type 0 where
  pub writes :
      Writes (decrypt_batch_rows P key x (length before))
      (tabulate (length x / (P.dimension.0 + 1))
      (λ i. decode (size_of P.modulus) P.plaintext_modulus
      (batch_phase (size_of P.modulus) P.dimension.0 key x i)))
      before r after
