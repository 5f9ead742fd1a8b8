-- The answers of the calls: the value that a definition gives, or the first number that applies.
use Rattle.std.specs.Prelude.{List, [], ◌∷◌, ◌++◌, ℕ, ◌+◌, ◌*◌, ◌%◌, ◌^◌, ltb, ℤ, length, Option, Result, IfOk}
use Rattle.scheme.specs.Numbers.{pick}
use Rattle.scheme.specs.Basis as B
use Rattle.scheme.specs.Reading as R
use Rattle.scheme.specs.Digits.{digits_of, runs_of}
use Rattle.scheme.specs.Checks.{Check, row, Writes, basis_rows}
use Rattle.scheme.specs.Counts.{counts_of}
use Rattle.scheme.specs.Checks.{large_fails, length_fails, word_fails, words_fail}
use Rattle.primus_reduce.specs.Ring.{meant, size_of}
use Rattle.primus_reduce.specs.declared.modulus.Modulus.{Modulus}
use Rattle.check_order.specs.declared.refusal.Refusal.{Refusal}
use Rattle.check_order.specs.Answer.{answer}
use Rattle.gadget_parameters.specs.declared.DecompositionBaseLog.{DecompositionBaseLog}
use Rattle.gadget_parameters.specs.declared.DecompositionLevelCount.{DecompositionLevelCount}
use Rattle.gadget_parameters.specs.Kinds.{levels_for, level_count_of}
use Rattle.gadget_digits.specs.Step.{decomposer_of}
use Rattle.gadget_constants.specs.declared.prepared.PreparedBasis.{PreparedBasis}
use Rattle.gadget_constants.specs.Prepared.{basis_by, prepared_of, Ready}
use Rattle.gadget_constants.specs.Word.{init_of, reading_of, signed_by}
use Rattle.gadget_digits.specs.declared.SignedDecomposer.{SignedDecomposer}
use Rattle.gadget_constants.specs.declared.word.ValueCarry.{ValueCarry}
use Rattle.gadget_constants.specs.declared.word.Reading.{Reading}
use Rattle.primus_decompose.specs.declared.primitive.basis.ApproxSignedBasis.{ApproxSignedBasis}

-- the basis that a value stands for
abbrev pub basis : ApproxSignedBasis → B.Basis
basis b = basis_by b.modulus b.log_basis.0 b.level_count.0

-- a basis judges 1 to 3 and 5
abbrev pub rows : ApproxSignedBasis → List Check
rows b = basis_rows 32 (meant b.modulus) b.log_basis.0 b.level_count.0

-- q, base log and L as they are given
abbrev pub basis_from : Modulus → DecompositionBaseLog → Option DecompositionLevelCount → ApproxSignedBasis
basis_from m b l = record { modulus = m; log_basis = b; level_count = record { 0 = level_count_of m b.0 l } }

-- the basis of plain numbers, levels 0 left open
abbrev pub basis_with : Modulus → ℕ → ℕ → ApproxSignedBasis
basis_with m b l = basis_from m (record { 0 = b }) (levels_for l)

-- a basis, or the first of 1 to 3 and 5
abbrev pub tried : ApproxSignedBasis → Result ApproxSignedBasis Refusal
tried b = answer (rows b) b

abbrev pub basis_answer : Modulus → DecompositionBaseLog → Option DecompositionLevelCount → Result ApproxSignedBasis Refusal
basis_answer m b l = tried (basis_from m b l)

-- B as a word
abbrev pub base_word : ApproxSignedBasis → ℕ
base_word b = 2 ^ b.log_basis.0 % 2 ^ 32

-- weight j as a word, for j below L; there are no others
abbrev pub weight_word : ApproxSignedBasis → ℕ → ℕ
weight_word b j = pick (ltb j b.level_count.0) (B.weight (basis b) j % 2 ^ 32) 0

-- T, or the first of 1 to 3 and 5
abbrev pub threshold_answer : ApproxSignedBasis → Result ℕ Refusal
threshold_answer b = answer (rows b) (R.threshold (basis b))

-- the constants, or the first of 1 to 3 and 5
abbrev pub prepared_by : ApproxSignedBasis → PreparedBasis
prepared_by b = prepared_of b.modulus b.log_basis.0 b.level_count.0

abbrev pub prepared_answer : ApproxSignedBasis → Result PreparedBasis Refusal
prepared_answer b = answer (rows b) (prepared_by b)

-- the constants that are answered are those of an accepted basis
abbrev pub WhereReady : Result PreparedBasis Refusal → Type 0
WhereReady r = IfOk r Ready

-- a call on one word judges 1 to 3, 5 and 14
abbrev pub word_rows : ApproxSignedBasis → ℕ → List Check
word_rows b a = rows b ++ row (word_fails (size_of b.modulus) a) 14 ∷ []

abbrev pub init_answer : ApproxSignedBasis → ℕ → Result ValueCarry Refusal
init_answer b a = answer (word_rows b a) (init_of (basis b) a)

abbrev pub decomposer_answer : ApproxSignedBasis → ℕ → Result SignedDecomposer Refusal
decomposer_answer b a = answer (word_rows b a) (decomposer_of (basis b) a)

-- the reading and ε
abbrev pub reading_answer : ApproxSignedBasis → ℕ → Result Reading Refusal
reading_answer b a = answer (word_rows b a) (reading_of (basis b) a)

-- a stored digit as a signed number
abbrev pub signed_digit : ApproxSignedBasis → ℕ → ℤ
signed_digit b w = signed_by (base_word b) (size_of b.modulus) w

-- the digits of a word, into `room` words, judge 1 to 3, 5, 11 and 14
abbrev pub digit_rows : ApproxSignedBasis → ℕ → ℕ → List Check
digit_rows b a room =
    rows b ++ row (length_fails room b.level_count.0) 11 ∷ row (word_fails (size_of b.modulus) a) 14 ∷ []

-- "L numbers in −B/2 … B/2 − 1", stored, lowest first
pub record Decomposes (b : ApproxSignedBasis) (a : ℕ) (before : List ℕ) (r : ℕ) (after : List ℕ) : Type 0 where
  pub writes : Writes (digit_rows b a (length before)) (digits_of (basis b) a) before r after

-- the digits of a slice of words judge 1 to 3, 5, 11 and 14
abbrev pub slice_rows : ApproxSignedBasis → List ℕ → ℕ → List Check
slice_rows b xs room =
    rows b
    ++ row (length_fails room (b.level_count.0 * length xs)) 11
    ∷ row (words_fail (size_of b.modulus) xs) 14
    ∷ []

-- "The slice call writes L runs, lowest level first"
pub record DecomposesSlice (b : ApproxSignedBasis) (xs before : List ℕ) (r : ℕ) (after : List ℕ) : Type 0 where
  pub writes : Writes (slice_rows b xs (length before)) (runs_of (basis b) xs) before r after

-- the counts of words judge 1 to 3, 5, 26 and 11
abbrev pub count_rows : ApproxSignedBasis → ℕ → List Check
count_rows b room =
    rows b ++ row (large_fails 32 (meant b.modulus)) 26 ∷ row (length_fails room (b.level_count.0 + 1)) 11 ∷ []

-- "L + 1 counts: how many words below q have just 0, 1, … L digits that are not zero" (T-13)
pub record CountsWords (b : ApproxSignedBasis) (before : List ℕ) (r : ℕ) (after : List ℕ) : Type 0 where
  pub writes : Writes (count_rows b (length before)) (counts_of (basis b)) before r after
