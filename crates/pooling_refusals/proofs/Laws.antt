-- The words of a file that are judged so far, and 19 before the order.
-- Assumes nothing.
use Rattle.std.proofs.Common.{◌≡◌, refl, ap, ◌∙◌, rules, Bool, true, false, not, ◌&&◌, ◌||◌, ℕ, ◌+◌, List, length, add-one, arith, ltb, leb}
use Rattle.std.proofs.lemmas.Grind.{common_steps}
use Rattle.scheme.specs.Numbers.{pick, tabulate}
use Rattle.scheme.specs.Checks.{Check, all_of, applies, refusal, words_fail}
use Rattle.check_order.specs.declared.Sizes.{Sizes}
use Rattle.check_order.specs.Judged.{JudgesSizes}
use Rattle.saved_head.specs.declared.head.Head.{Head}
use Rattle.lwe_tag.specs.declared.LweTag.{LweTag}
use Rattle.lwe_parameters.specs.declared.parameter.LweDecryptionParameters.{LweDecryptionParameters}
use Rattle.pooling_rows.proofs.Laws.{all_next}
use Rattle.pooling_refusals.specs.Rows.{size_rows, begin_rows, total_rows, file_refusal}

pub words_none : (q : ℕ) (f : ℕ → ℕ) → words_fail q (tabulate 0 f) ≡ false
unfolding words_fail tabulate all_of
words_none q f = refl

fails : (a : Bool) (q x : ℕ) → not (a && ltb x q) ≡ (not a || leb q x)
fails a q x = grind (arith, common_steps)

pub words_next : (q n : ℕ) (f : ℕ → ℕ) → words_fail q (tabulate (n + 1) f) ≡ (words_fail q (tabulate n f) || leb q (f n))
unfolding words_fail
words_next q n f = rw (add-one, all_next (λ x. ltb x q) f n) (fails (all_of (λ x. ltb x q) (tabulate n f)) q (f n))

-- ---- the sizes of both calls, and the first refusal

module _ (p : LweDecryptionParameters) (h : Head) (s : List ℕ) (j : Sizes) where
  pub begin_sized : (width places : ℕ) → JudgesSizes (size_rows p h width places) j → JudgesSizes (begin_rows p h s width places) j
  begin_sized width places g = search rules

  pub total_sized : (xs : List ℕ) (ts : List LweTag) → JudgesSizes (size_rows p h (length xs) (length ts)) j → JudgesSizes (total_rows p h s xs ts) j
  total_sized xs ts g = search rules

-- of the head of a file
module _ (rows : Head → List Check) (g : Head) where
  pub foreign_is : {n : ℕ} → n ≡ 19 → applies (rows g) 19 ≡ true → n ≡ file_refusal (rows g)
  unfolding file_refusal
  foreign_is e t = e ∙ rw t refl

  pub own_is : {h : Head} {r : ℕ} → h ≡ g → applies (rows g) 19 ≡ false → r ≡ refusal (rows h) → r ≡ file_refusal (rows g)
  unfolding file_refusal
  own_is e t k = k ∙ ap (λ h. refusal (rows h)) e ∙ rw t refl

pub in_order : (rows : List Check) → file_refusal rows ≡ 0 → refusal rows ≡ 0
unfolding file_refusal
in_order rows e = go (applies rows 19) e
  where
    go : (b : Bool) → pick b 19 (refusal rows) ≡ 0 → refusal rows ≡ 0
    go true e = let z : ◌≡◌ {A = ℕ} 19 0 = e in absurd (omega arith)
    go false e = e
