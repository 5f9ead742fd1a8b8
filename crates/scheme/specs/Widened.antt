-- "Calls answered before keep their answers" (T-10): check 7 as document 01 had it, for one theorem only.
use Rattle.std.specs.Prelude.{◌≡◌, Bool, ◌||◌, List, ◌∷◌, ℕ, ◌≤◌, ltb}
use Rattle.scheme.specs.Checks.{Check, row, refusal}

-- "7. The plaintext modulus t is below 2 or above 65,536."
abbrev pub plaintext_failed : ℕ → Bool
plaintext_failed t = ltb t 2 || ltb 65536 t

-- a call's checks, which may stand in any order, with that 7 of its t among them
abbrev pub with_limit : ℕ → List Check → List Check
with_limit t rows = row (plaintext_failed t) 7 ∷ rows

-- how a call with these checks answers now, beside the number that it gave with the limit
pub record Widened (t : ℕ) (rows : List Check) : Type 0 where
  -- what was served is served; what had another number than 7 has it still
  pub kept : (refusal (with_limit t rows) ≡ 7 → ⊥) → refusal rows ≡ refusal (with_limit t rows)
  -- up to the limit every number is what it was, 7 too
  pub within : t ≤ 65536 → refusal rows ≡ refusal (with_limit t rows)
