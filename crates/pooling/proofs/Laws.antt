-- The places of a total that is judged.
-- Assumes nothing.
use mathlib.Core.Path.{◌≡◌, sym, ap, ◌∙◌}
use mathlib.Core.Bool.{Bool, false, not}
use mathlib.Core.List.{List}
use Prim.Native.Nat.{ℕ, ◌<◌}
use native.Mathlib.Omega.{arith}
use lib.ListN.{length}
use borrow.Author.Tests.{not-false, not-true}
use Rattle.scheme.specs.Numbers.{tabulate}
use Rattle.scheme.proofs.Checks.{all_at}
use Rattle.scheme.proofs.Lists.{length-tabulate, get_d_tabulate}
use Rattle.lwe_tag.specs.declared.LweTag.{LweTag}
use Rattle.lwe_tag.specs.Answers.{tag_fails}
use Rattle.saved.specs.Layout.{saved_tag}
use Rattle.pooling_rows.specs.Rows.{somewhere, place_fails, places_fail, saved_fail}

-- f at none of k places
spared : (k : ℕ) (f : ℕ → Bool) (i : ℕ) → somewhere k f ≡ false → i < k → f i ≡ false
spared k f i e h =
    let a = all_at (λ i. not (f i)) 0 (tabulate k (λ i. i)) (not-false _ e) i (omega (arith, length-tabulate k (λ i. i))) in
    not-true (f i) (ap (λ j. not (f j)) (sym (get_d_tabulate k (λ i. i) i h)) ∙ a)

pub place_ok : (ts : List LweTag) (s : List ℕ) (i : ℕ) → places_fail ts s ≡ false → i < length ts → place_fails ts s i ≡ false
unfolding places_fail
place_ok ts s i e h = spared (length ts) (place_fails ts s) i e h

pub saved_ok : (k : ℕ) (s : List ℕ) (i : ℕ) → saved_fail k s ≡ false → i < k → tag_fails (saved_tag s i) ≡ false
unfolding saved_fail
saved_ok k s i e h = spared k (λ i. tag_fails (saved_tag s i)) i e h
