-- Runs of ciphertexts: for the steps, and no part of a promise.
use Rattle.std.specs.Prelude.{◌≡◌, List, ◌++◌, ℕ, ◌+◌, ◌*◌, take, drop}

-- what writing a run asks, of n and the lengths of masks, errors and output: a row for each error
pub record Run (n masks errors room : ℕ) : Type 0 where
  pub each : masks ≡ errors * n
  pub rooms : room ≡ errors * (n + 1)

-- xs with its n words from `at` on replaced by ys
abbrev pub replaced : List ℕ → ℕ → ℕ → List ℕ → List ℕ
replaced xs at n ys = take at xs ++ (ys ++ drop n (drop at xs))
