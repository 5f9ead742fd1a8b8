-- "formed by additions from single encryptions of messages under one secret, q and t, … with either embedding" (T-02): totals, with the tags
-- that the calls answer.
use Rattle.std.specs.Prelude.{Ok, List, ℕ, ℤ, ◌+◌, ◌<◌, length, get_or}
use Rattle.scheme.specs.Numbers.{Cong}
use Rattle.scheme.specs.Lwe.{Key, secret_of, row_of, Errors}
use Rattle.primus_reduce.specs.Ring.{size_of}
use Rattle.primus_reduce.specs.declared.modulus.Modulus.{Modulus}
use Rattle.codec_words.specs.declared.embedding.PlaintextEmbedding.{PlaintextEmbedding}
use Rattle.lwe_tag.specs.declared.LweTag.{LweTag}
use Rattle.primus_lattice.specs.declared.dimension.LweDimension.{LweDimension}
use Rattle.primus_lattice.specs.Answers.{Adds}
use Rattle.lwe_parameters.specs.declared.parameter.LweParameters.{LweParameters}
use Rattle.primus_lwe.specs.Answers.{EncryptsMessage}
use Rattle.primus_lwe_batch.specs.Answers.{EncryptsBatch}

-- a key, of words or of signed numbers, that is the secret s of n places modulo q
abbrev pub IsSecret : ℕ → ℕ → (ℕ → ℤ) → Key → Type 0
IsSecret q n s key = (i : ℕ) → i < n → Cong q (secret_of key i) (s i)

-- what an encryption within ±E takes
abbrev pub within_limit : LweDimension → Modulus → ℕ → ℕ → LweParameters
within_limit n m t E = record { dimension = n; modulus = m; plaintext_modulus = t; error_limit = E }

-- a total under the secret s: its words, its tag, and what its messages add up to
pub data Formed (n : LweDimension) (m : Modulus) (t : ℕ) (s : ℕ → ℤ) : List ℕ → LweTag → ℕ → Type 0 where
  -- what `encrypt_message_to` wrote for the message x, within any limit E and in either embedding g
  Single : (E : ℕ) (g : PlaintextEmbedding) (key : Key) (a : List ℕ) (es : Errors) (x : ℕ) (before after : List ℕ) (tag : LweTag)
      → IsSecret (size_of m) n.0 s key
      → EncryptsMessage (within_limit n m t E) g key a es x before (Ok tag) after
      → Formed n m t s after tag x
  -- row i of what `encrypt_message_batch_to` wrote
  Row : (E : ℕ) (g : PlaintextEmbedding) (key : Key) (masks : List ℕ) (es : Errors) (xs before after : List ℕ) (tag : LweTag) (i : ℕ)
      → IsSecret (size_of m) n.0 s key
      → EncryptsBatch (within_limit n m t E) g key masks es xs before (Ok tag) after
      → i < length xs → Formed n m t s (row_of n.0 after i) tag (get_or xs i 0)
  -- what `add` wrote for two totals
  Sum : (x y : List ℕ) (g h : LweTag) (M N : ℕ) (after : List ℕ) (tag : LweTag)
      → Formed n m t s x g M → Formed n m t s y h N
      → Adds m n x g y h (Ok tag) after
      → Formed n m t s after tag (M + N)

-- how many encryptions it was formed of
abbrev pub encryptions : {n : LweDimension} {m : Modulus} {t : ℕ} {s : ℕ → ℤ} {words : List ℕ} {tag : LweTag} {M : ℕ}
    → Formed n m t s words tag M → ℕ
encryptions (Single E g key a es x before after tag k c) = 1
encryptions (Row E g key masks es xs before after tag i k c l) = 1
encryptions (Sum x y g h M N after tag u v c) = encryptions u + encryptions v
