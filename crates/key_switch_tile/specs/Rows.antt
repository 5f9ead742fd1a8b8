-- Rows of accumulators: numbers that stand for words modulo q.
use Rattle.std.specs.Prelude.{◌≡◌, List, ℕ, ◌+◌, ◌-◌, ◌^◌, ◌<◌, ◌≤◌, pos, ◌-ℤ◌, ◌*ℤ◌, length, get_or}
use Rattle.scheme.specs.Numbers.{Cong}
use Rattle.scheme.specs.Switch.{Below}

-- a stored digit, of −B/2 … B/2 − 1 with half = B/2: below half, or within half of q
pub record Near (q half d : ℕ) : Type 0 where
  pub word : d < q
  pub near : half ≤ d → q - d ≤ half

-- a stored digit times the entry can be taken away, where no accumulator then grows by more than `grow`
pub record Spare (q half grow d : ℕ) (acc entry : List ℕ) : Type 0 where
  pub same : length acc ≡ length entry
  pub entries : Below q entry
  pub digit : Near q half d
  pub room : (c : ℕ) → c < length acc → get_or acc c 0 + grow < 2 ^ 64

-- d times the entry is taken away modulo q, and no accumulator grows by more than `grow`
pub record Less (q grow d : ℕ) (entry acc acc' : List ℕ) : Type 0 where
  pub same : length acc' ≡ length acc
  pub word : (c : ℕ) → c < length acc
      → Cong q (pos (get_or acc' c 0)) (pos (get_or acc c 0) -ℤ pos d *ℤ pos (get_or entry c 0))
  pub most : (c : ℕ) → c < length acc → get_or acc' c 0 ≤ get_or acc c 0 + grow
