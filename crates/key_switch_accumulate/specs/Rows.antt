-- Rows of exact sums: room for more, and reduction.
use Rattle.std.specs.Prelude.{◌≡◌, Bool, true, false, List, ℕ, ◌+◌, ◌-◌, ◌*◌, ◌^◌, ◌<◌, ◌≤◌, pos, length, get_or}
use Rattle.scheme.specs.Numbers.{Cong}
use Rattle.scheme.specs.Switch.{Below}

-- y, or what it leaves of q
abbrev pub addend_of : Bool → ℕ → ℕ → ℕ
addend_of true q y = q - y
addend_of false q y = y

-- a times a word can be added to each accumulator
pub record Roomy (q a : ℕ) (acc entry : List ℕ) : Type 0 where
  pub same : length acc ≡ length entry
  pub entries : Below q entry
  pub room : (c : ℕ) → c < length acc → get_or acc c 0 + a * q < 2 ^ 64

-- the accumulators stand for the same words, and what was at most the old ceiling is at most the new,
-- which is within the limit
pub record Kept (q ceiling limit : ℕ) (acc : List ℕ) (r : ℕ) (acc' : List ℕ) : Type 0 where
  pub same : length acc' ≡ length acc
  pub low : r ≤ limit
  pub word : (k : ℕ) → k < length acc → Cong q (pos (get_or acc' k 0)) (pos (get_or acc k 0))
  pub most : (k : ℕ) → k < length acc → get_or acc k 0 ≤ ceiling → get_or acc' k 0 ≤ r
