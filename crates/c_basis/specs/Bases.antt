-- The basis and a reading as rows of numbers, and what their calls judge: 1 to 3, 5, and 11 for the output.
use Rattle.std.specs.Prelude.{List, [], ◌∷◌, ◌++◌, ℕ, ◌%◌, ◌^◌, ℤ, length}
use Rattle.scheme.specs.Modulus.{bits}
use Rattle.scheme.specs.Basis.{dropped, bound}
use Rattle.scheme.specs.Reading.{threshold, reading, rounding}
use Rattle.scheme.specs.Checks.{Check, row, length_fails, word_fails, Writes}
use Rattle.primus_reduce.specs.Ring.{meant, size_of}
use Rattle.primus_decompose.specs.declared.primitive.basis.ApproxSignedBasis.{ApproxSignedBasis}
use Rattle.primus_decompose.specs.Answers.{basis, rows, base_word}

-- 1 to 3, 5, and an output of `count` numbers
abbrev pub output_rows : ApproxSignedBasis → ℕ → ℕ → List Check
output_rows b room count = rows b ++ row (length_fails room count) 11 ∷ []

-- k, B, L, d, H and T, where T is given
abbrev pub constants : ApproxSignedBasis → ℕ → List ℕ
constants b T =
    bits 32 (meant b.modulus)
    ∷ base_word b
    ∷ b.level_count.0 % 2 ^ 32
    ∷ dropped (basis b)
    ∷ bound (basis b)
    ∷ T
    ∷ []

pub record WritesBasis (b : ApproxSignedBasis) (before : List ℕ) (r : ℕ) (after : List ℕ) : Type 0 where
  pub writes : Writes (output_rows b (length before) 6) (constants b (threshold (basis b))) before r after

-- a reading judges besides 14
abbrev pub reading_rows : ApproxSignedBasis → ℕ → ℕ → List Check
reading_rows b a room = rows b ++ row (length_fails room 2) 11 ∷ row (word_fails (size_of b.modulus) a) 14 ∷ []

-- the reading and ε
pub record WritesReading (b : ApproxSignedBasis) (a : ℕ) (before : List ℤ) (r : ℕ) (after : List ℤ) : Type 0 where
  pub writes :
      Writes (reading_rows b a (length before)) (reading (basis b) a ∷ rounding (basis b) a ∷ []) before r after
