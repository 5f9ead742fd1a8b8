-- One row of a total and of a file, where the sum of the two is accepted.
--     row_served    the call of the sum answers its tag
--     row_added     its tag is the sum's, and the sum stands in place of the row
-- Assumes nothing.
use Rattle.std.proofs.Common.{rules, ◌≡◌, refl, sym, ap, ◌∙◌, ℕ, ◌+◌, ◌*◌, ◌-◌, ◌≤◌, List, ◌++◌, Result, Ok, length, take, drop, arith}
use Rattle.std.proofs.Math.Seq.{length-take-le}
use borrow.Author.Tests.{eq-eqb}
use Rattle.std.specs.Result.{IsOk}
use Rattle.scheme.specs.Lwe.{add_words}
use Rattle.scheme.specs.Checks.{refusal}
use Rattle.primus_reduce.specs.Ring.{size_of}
use Rattle.primus_reduce.specs.declared.modulus.Modulus.{Modulus}
use Rattle.check_order.specs.declared.refusal.Refusal.{Refusal}
use Rattle.check_order.proofs.Answers.{accepted}
use Rattle.lwe_tag.specs.declared.LweTag.{LweTag}
use Rattle.primus_lattice.specs.declared.dimension.LweDimension.{LweDimension}
use Rattle.primus_lattice.specs.Answers.{add_rows, Adds}
use Rattle.saved.specs.Layout.{saved_tag}
use Rattle.pooling_rows.specs.Rows.{added_tag, words_from, row_at, replaced_row}

-- a part, as the code cuts it
part_is : (w at : ℕ) (xs : List ℕ) → take (at + w - at) (drop at xs) ≡ take w (drop at xs)
part_is w at xs = let e : at + w - at ≡ w = omega arith in rw e refl

-- a width W that is n, and the space that the row of the file is read into
module _ {m : Modulus} {n : LweDimension} {y : List ℕ} {h : LweTag} {given : Result LweTag Refusal} {after : List ℕ}
    (W i : ℕ) (g : LweTag) (total s space : List ℕ) (ew : W ≡ n.0) (room : n.0 + 1 ≤ length space)
    (ey : y ≡ words_from s (i * (W + 1)) (length (take (W + 1) space))) (eh : h ≡ saved_tag s i)
    (p : Adds m n (take (i * (W + 1) + (W + 1) - i * (W + 1)) (drop (i * (W + 1)) total)) g y h given after)
    (z : refusal (add_rows m n.0 (row_at (n.0 + 1) total i) g (words_from s (i * (n.0 + 1)) (n.0 + 1)) (saved_tag s i)) ≡ 0) where
  read : y ≡ words_from s (i * (n.0 + 1)) (n.0 + 1)
  read = ey ∙ rw ew (ap (words_from s (i * (n.0 + 1))) (length-take-le (n.0 + 1) space room))

  row : take (i * (W + 1) + (W + 1) - i * (W + 1)) (drop (i * (W + 1)) total) ≡ row_at (n.0 + 1) total i
  row = part_is (W + 1) (i * (W + 1)) total ∙ rw ew

  adds : Adds m n (row_at (n.0 + 1) total i) g (words_from s (i * (n.0 + 1)) (n.0 + 1)) (saved_tag s i) given after
  adds = rw (row, read, eh) at p

  tag : LweTag
  tag = added_tag g (saved_tag s i)

  served : given ≡ Ok tag
  unfolding tag
  served = adds.writes.answered ∙ accepted _ _ z

  pub row_served : IsOk given
  row_served = let e = served in search rules

  words : take (i * (W + 1)) total ++ (after ++ drop (i * (W + 1) + (W + 1) - i * (W + 1)) (drop (i * (W + 1)) total))
      ≡ replaced_row (n.0 + 1) total i (add_words (size_of m) (row_at (n.0 + 1) total i) (words_from s (i * (n.0 + 1)) (n.0 + 1)))
  words =
      let size : i * (n.0 + 1) + (n.0 + 1) - i * (n.0 + 1) ≡ n.0 + 1 = omega arith in
      rw (ew, size, adds.writes.holds, eq-eqb _ 0 z) refl

  pub row_added : (sum : LweTag) → given ≡ Ok sum
      → (take (i * (W + 1)) total ++ (after ++ drop (i * (W + 1) + (W + 1) - i * (W + 1)) (drop (i * (W + 1)) total))
      ≡ replaced_row (n.0 + 1) total i (add_words (size_of m) (row_at (n.0 + 1) total i) (words_from s (i * (n.0 + 1)) (n.0 + 1))))
      × (sum ≡ added_tag g (saved_tag s i))
  unfolding tag
  row_added sum es =
      let e : ◌≡◌ {A = Result LweTag Refusal} (Ok sum) (Ok tag) = sym es ∙ served in
      (words, cc)
