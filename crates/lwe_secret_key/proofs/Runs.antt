-- Rows of encryptions, written in order.
--     rows_start    before the first row is written,
--     rows_more     one row more,
--     rows_done     and after the last
-- Assumes nothing.
use mathlib.Core.Path.{◌≡◌, ap, ◌∙◌}
use mathlib.Core.List.{List}
use Prim.Native.Nat.{ℕ, ◌+◌, ◌*◌, ◌≤◌, ◌<◌}
use lib.IntN.{ℤ, pos}
use lib.ListN.{length, take, drop}
use Rattle.scheme.specs.Lwe.{encrypted, encrypted_rows}
use Rattle.scheme.proofs.Rows.{Filling, filling_start, filling_next, filling_end}
use Rattle.scheme.proofs.Public.{encrypted-row}
use Rattle.lwe_secret_key.specs.Runs.{replaced, Run}

-- the first i rows are written over d
abbrev pub Rows : ℕ → ℕ → List ℕ → (ℕ → ℤ) → (ℕ → ℤ) → (ℕ → ℤ) → ℕ → List ℕ → List ℕ → ℕ → Type 0
Rows q n masks s e p c d now i = Filling (λ i. encrypted q n (take n (drop (i * n) masks)) s (e i) (p i)) (n + 1) c d now i

module _ (q n : ℕ) (masks : List ℕ) (s e p : ℕ → ℤ) (c : ℕ) (d : List ℕ) (run : Run n (length masks) c (length d)) where
  pub rows_start : Rows q n masks s e p c d d 0
  rows_start = filling_start _ (n + 1) c d run.rooms (λ i h. encrypted-row q n c i masks s (e i) (p i) run.each h)

pub rows_more : (q n : ℕ) (masks : List ℕ) (s e p : ℕ → ℤ) (c : ℕ) (d now : List ℕ) (i : ℕ) → Rows q n masks s e p c d now i → i < c → (w : ℕ) → pos w ≡ p i
    → (next : List ℕ) → next ≡ replaced now (i * (n + 1)) (n + 1) (encrypted q n (take n (drop (i * n) masks)) s (e i) (pos w))
    → Rows q n masks s e p c d next (i + 1)
rows_more q n masks s e p c d now i r h w ep next en =
    filling_next r h next (en ∙ ap (λ z. replaced now (i * (n + 1)) (n + 1) (encrypted q n (take n (drop (i * n) masks)) s (e i) z)) ep)

pub rows_done : (q n : ℕ) (masks : List ℕ) (s e p : ℕ → ℤ) (c : ℕ) (d now : List ℕ) (i : ℕ) → Rows q n masks s e p c d now i → c ≤ i → now ≡ encrypted_rows q n c masks s e p
unfolding encrypted_rows
rows_done q n masks s e p c d now i r h = filling_end r h
