-- What the checks of a call leave.
-- Assumes nothing.
use mathlib.Core.Path.{◌≡◌, sym, ap, ◌∙◌}
use mathlib.Core.Bool.{Bool, false, ◌||◌}
use mathlib.Core.List.{List}
use Prim.Native.Nat.{ℕ, ◌+◌, ◌*◌}
use lib.IntN.{ℤ}
use lib.ListN.{length}
use Rattle.scheme.specs.Lwe.{Errors, error_count, error_values}
use Rattle.scheme.specs.Checks.{length_fails, errors_fail, coefficients_fail}
use Rattle.scheme.proofs.Checks.{length_ok, magnitudes_ok}
use Rattle.scheme.proofs.Order.{neither}
use Rattle.primus_lwe.proofs.Laws.{Lengths}
use Rattle.lwe_public_rows.specs.Public.{Public}

-- 12, of two lengths: the first
pub lent_ok : (x y n m : ℕ) {nine ten eleven : Bool} → Lengths nine ten eleven (length_fails x n || length_fails y m) → x ≡ n
lent_ok x y n m passed = length_ok _ _ (neither (length_fails y m) (length_fails x n) passed.lent).1

-- 11 and 12 of a generation
pub generation_ok : (room errors masks n : ℕ) {nine ten : Bool}
    → Lengths nine ten (length_fails room (n * (n + 1))) (length_fails errors n || length_fails masks (n * n)) → (masks ≡ n * n) × (room ≡ n * (n + 1))
generation_ok room errors masks n passed =
    (length_ok _ _ (neither (length_fails masks (n * n)) (length_fails errors n) passed.lent).0, length_ok _ _ passed.output)

-- 9, 11, 12 and 15 of an encryption: a row for each coefficient
pub public_ok : (key : List ℕ) (es : Errors) (rs : List ℤ) (room n q E : ℕ) {ten : Bool}
    → Lengths (length_fails (length key) (n * (n + 1))) ten (length_fails room (n + 1)) (length_fails (length rs) n || length_fails (error_count es) (n + 1))
    → (coefficients_fail rs || errors_fail E (error_values q es)) ≡ false → Public (length rs) key rs room
public_ok key es rs room n q E passed fifteen =
    let e = sym (lent_ok (length rs) (error_count es) n (n + 1) passed) in
    record {
      rows = length_ok _ _ passed.key ∙ ap (λ k. k * (k + 1)) e;
      fits = length_ok _ _ passed.output ∙ ap (λ k. k + 1) e;
      small = magnitudes_ok 2 rs (neither (errors_fail E (error_values q es)) (coefficients_fail rs) fifteen).1;
    }
