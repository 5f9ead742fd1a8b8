-- A word rebuilt from what was written for it.
use Rattle.std.specs.Prelude.{ℕ, ◌≤◌, ltb, ℤ, pos, nat_abs, ◌+ℤ◌, ◌-ℤ◌, ◌*ℤ◌}
use Rattle.scheme.specs.Numbers.{pick, Cong, sum_to}
use Rattle.scheme.specs.Basis.{Basis, half, bound, weight}
use Rattle.scheme.specs.Reading.{rounding}
use Rattle.scheme.specs.Digits.{Digits}

-- "negative ones are stored as q + digit": a stored word as the number that it stands for
abbrev pub read_back : Basis → ℕ → ℤ
read_back b w = pick (ltb w (half b)) (pos w) (pos w -ℤ pos b.modulus)

-- "digits times weights rebuild a word within the stated bound": the words w 0, w 1, … written for the word a
pub record Rebuilds (b : Basis) (a : ℕ) (w : ℕ → ℕ) : Type 0 where
  -- times the weights they are a less ε, modulo q,
  pub rebuilds : Cong b.modulus (pos a) (sum_to b.levels (λ j. pos (w j) *ℤ pos (weight b j)) +ℤ rounding b a)
  -- and ε is within H;
  pub within : nat_abs (rounding b a) ≤ bound b
  -- the numbers that they stand for are the scheme's digits
  pub digits : Digits b a (λ j. read_back b (w j))
