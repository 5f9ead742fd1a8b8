-- One row of exact sums: what an entry adds to it or takes from it, and reduction.
-- Assumes nothing.
use mathlib.Core.Path.{◌≡◌, refl, ◌∙◌, ap}
use mathlib.Core.List.{List, map, zip_with}
use Prim.Native.Nat.{ℕ, ◌+◌, ◌*◌, ◌-◌, ◌%◌, ◌^◌, ◌<◌, ◌≤◌}
use native.Mathlib.Omega.{arith}
use native.Mathlib.Nat.{mul-le-mul_left, mul-le-mul_right, mod-lt}
use lib.IntN.{pos, ◌+ℤ◌, ◌-ℤ◌, ◌*ℤ◌}
use lib.ListN.{length, get_or, length-map}
use Rattle.scheme.specs.Numbers.{residue, Cong}
use Rattle.scheme.proofs.Integers.{⊖-eq, diff}
use Rattle.scheme.proofs.Residue.{cong_refl, cong_sym, cong_residue}
use Rattle.scheme.proofs.InPlace.{Filled, filled_word, length_zip, zip_at, map_at}
use Rattle.key_switch_tile.specs.Rows.{Spare, Less}
use mathlib.Core.Bool.{Bool, true, false}
use Rattle.key_switch_accumulate.specs.Rows.{Roomy, Kept, addend_of}

-- an addend of a word of at most q is at most q
pub addend-most : (b : Bool) (q y : ℕ) → y ≤ q → addend_of b q y ≤ q
addend-most true q y h = omega arith
addend-most false q y h = h

-- the accumulator to come is as it was, so there is room
module _ (q a : ℕ) (R acc₀ entry : List ℕ) (r : Roomy q a acc₀ entry) (acc : List ℕ) (k : ℕ) (f : Filled R acc₀ acc k) (h : k < length acc) where
  pub at_acc : k < length acc₀
  at_acc = omega (arith, f.same)

  pub word_at : get_or entry k 0 ≤ q
  word_at = omega (arith, r.entries k (omega (arith, r.same, at_acc)))

  pub room_at : (y : ℕ) → y ≤ q → get_or acc k 0 + a * y < 2 ^ 64
  room_at y m = omega (arith, room, mul-le-mul_left a m)
    where
      room : get_or acc k 0 + a * q < 2 ^ 64
      room = rw (filled_word R acc₀ acc k f at_acc) (r.room k at_acc)

-- x + d (q − y) is x − d y, and x + (q − d) y too
cong_less : (q d x y : ℕ) → y ≤ q → Cong q (pos (x + d * (q - y))) (pos x -ℤ pos d *ℤ pos y)
cong_less q d x y h = record { turns = pos d; eq = go (q - y) (omega arith) }
  where
    go : (s : ℕ) → q ≡ s + y → pos (x + d * s) ≡ pos x -ℤ pos d *ℤ pos y +ℤ pos q *ℤ pos d
    go s e = rw e (simp diff (⊖-eq _ _ _ _ (omega arith)))

cong_more : (q d x y : ℕ) → d ≤ q → Cong q (pos (x + (q - d) * y)) (pos x -ℤ pos d *ℤ pos y)
cong_more q d x y h = record { turns = pos y; eq = go (q - d) (omega arith) }
  where
    go : (s : ℕ) → q ≡ s + d → pos (x + s * y) ≡ pos x -ℤ pos d *ℤ pos y +ℤ pos q *ℤ pos y
    go s e = rw e (simp diff (⊖-eq _ _ _ _ (omega arith)))

module _ (q half d : ℕ) (acc entry : List ℕ) (l : Spare q half (half * q) d acc entry) where
  word : (c : ℕ) → c < length acc → get_or entry c 0 ≤ q
  word c k = omega (arith, l.entries c (omega (arith, l.same)))

  pub less-small : d < half → (acc' : List ℕ) → acc' ≡ zip_with (λ x y. x + d * (q - y)) acc entry → Less q (half * q) d entry acc acc'
  less-small h acc' e =
      record {
        same = ap length e ∙ length_zip _ acc entry l.same;
        word = λ c k. rw (at c k) (cong_less q d (get_or acc c 0) (get_or entry c 0) (word c k));
        most = λ c k. rw (at c k) (omega (arith, mul-le-mul_left {m = q - get_or entry c 0} {n = q} d (omega arith), mul-le-mul_right {m = d} {n = half} q (omega arith)));
      }
    where
      at : (c : ℕ) → c < length acc → get_or acc' c 0 ≡ get_or acc c 0 + d * (q - get_or entry c 0)
      at c k = ap (λ l. get_or l c 0) e ∙ zip_at (λ x y. x + d * (q - y)) acc entry c l.same k

  pub less_large : half ≤ d → (acc' : List ℕ) → acc' ≡ zip_with (λ x y. x + (q - d) * y) acc entry → Less q (half * q) d entry acc acc'
  less_large h acc' e =
      record {
        same = ap length e ∙ length_zip _ acc entry l.same;
        word = λ c k. rw (at c k) (cong_more q d (get_or acc c 0) (get_or entry c 0) (omega (arith, l.digit.word)));
        most = λ c k. rw (at c k) (omega (arith, mul-le-mul_left (q - d) (word c k), mul-le-mul_right {m = q - d} {n = half} q (l.digit.near h)));
      }
    where
      at : (c : ℕ) → c < length acc → get_or acc' c 0 ≡ get_or acc c 0 + (q - d) * get_or entry c 0
      at c k = ap (λ l. get_or l c 0) e ∙ zip_at (λ x y. x + (q - d) * y) acc entry c l.same k

-- ---- reductions

pub mapped_length : (f : ℕ → ℕ) (xs : List ℕ) → length (map f xs) ≡ length xs
mapped_length f xs = length-map xs f

cong_mod : (q x : ℕ) → 0 < q → Cong q (pos (x % q)) (pos x)
unfolding residue
cong_mod q x h = cong_sym (cong_residue q h (pos x))

pub kept_reduced : (q ceiling limit : ℕ) (acc acc' : List ℕ) → 0 < q → q ≤ limit → acc' ≡ map (λ x. x % q) acc → Kept q ceiling limit acc q acc'
kept_reduced q ceiling limit acc acc' h l e =
    record {
      same = ap length e ∙ length-map acc (λ x. x % q);
      low = l;
      word = λ k m. rw (at k m) (cong_mod q (get_or acc k 0) h);
      most = λ k m b. rw (at k m) (omega (arith, mod-lt (get_or acc k 0) h));
    }
  where
    at : (k : ℕ) → k < length acc → get_or acc' k 0 ≡ get_or acc k 0 % q
    at k m = ap (λ l. get_or l k 0) e ∙ map_at (λ x. x % q) acc k m

pub kept_still : (q ceiling limit : ℕ) (acc : List ℕ) → ceiling ≤ limit → Kept q ceiling limit acc ceiling acc
kept_still q ceiling limit acc h = record { same = refl; low = h; word = λ k m. cong_refl q (pos (get_or acc k 0)); most = λ k m b. b }
