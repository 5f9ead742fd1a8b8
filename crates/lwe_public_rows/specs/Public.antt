-- Rows of a public key: what writing an encryption asks, and its steps.
use Rattle.std.specs.Prelude.{List, ◌≡◌, ℕ, ◌+◌, ◌*◌, ◌<◌, eqb, ℤ, pos, nat_abs, ◌+ℤ◌, ◌*ℤ◌, length, get_or}
use Rattle.scheme.specs.Numbers.{pick, residue}

-- of n coefficients: a key of n rows of n + 1 words, and room for one
pub record Public (n : ℕ) (key : List ℕ) (rs : List ℤ) (room : ℕ) : Type 0 where
  pub rows : length key ≡ n * (n + 1)
  pub fits : room ≡ n + 1
  pub small : (i : ℕ) → i < n → nat_abs (get_or rs i (pos 0)) < 2

-- x + r × y modulo q
abbrev pub plus_times : ℕ → ℤ → ℕ → ℕ → ℕ
plus_times q r x y = residue (pos x +ℤ r *ℤ pos y) q

-- word k of the errors f with p added to the body
unfoldable pub start_word : ℕ → ℕ → (ℕ → ℤ) → ℕ → ℕ → ℕ
start_word q n f p k = residue (f k +ℤ pick (eqb k n) (pos p) (pos 0)) q
