-- T-10: without the limit on t a call answers as it did, but where it gave 7 for a t above 65,536.
--     not_seven      a number that was not 7 is the same number, for every call; served_before: what passed passes
--     widened        for t up to 65,536 so is a 7, for every call whose 7 is that of its t
--     limited        what passed had t up to 65,536
-- Assumes nothing.
use mathlib.Core.Path.{◌≡◌, refl, sym, ◌∙◌}
use mathlib.Core.Bool.{Bool, true, false, ◌||◌}
use mathlib.Core.List.{List}
use Prim.Native.Nat.{ℕ, ◌≤◌}
use native.Mathlib.Omega.{arith}
use lib.Dec.{ltb}
use borrow.Author.Tests.{ltb-false, le-ltb}
use Rattle.scheme.specs.Checks.{Check, row, applies, refusal, plaintext_fails}
use Rattle.scheme.specs.Widened.{plaintext_failed, with_limit, Widened}
use Rattle.scheme.proofs.Order.{passed, neither, one_more_lem, again}

pub not_seven : (t : ℕ) (rows : List Check) → (refusal (with_limit t rows) ≡ 7 → ⊥) → refusal rows ≡ refusal (with_limit t rows)
not_seven t rows h = sym (one_more_lem (row (plaintext_failed t) 7) rows h)

pub served_before : (t : ℕ) (rows : List Check) → refusal (with_limit t rows) ≡ 0 → refusal rows ≡ 0
served_before t rows e = not_seven t rows (λ z. omega (arith, e, z)) ∙ e

pub limited : (t : ℕ) (rows : List Check) → refusal (with_limit t rows) ≡ 0 → t ≤ 65536
limited t rows e =
    let seven = (neither (plaintext_failed t) (applies rows 7) (passed (with_limit t rows) e 7 tt)).0 in
    ltb-false 65536 t (neither (ltb 65536 t) (ltb t 2) seven).0

pub widened : (t : ℕ) (rows : List Check) → applies rows 7 ≡ plaintext_fails t → Widened t rows
widened t rows seven = record {
  kept = not_seven t rows;
  within = λ h. sym (again (row (plaintext_failed t) 7) rows (λ e. seven ∙ below (ltb t 2) (ltb 65536 t) (le-ltb 65536 t h) e));
}
  where
    below : (a b : Bool) → b ≡ false → (a || b) ≡ true → a ≡ true
    below true b f e = refl
    below false b f e = let z : false ≡ true = sym f ∙ e in z
