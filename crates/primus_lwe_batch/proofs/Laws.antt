-- What the checks of a batch leave.
-- Assumes nothing.
use mathlib.Core.Path.{◌≡◌, sym, ap, ap₂, ◌∙◌}
use mathlib.Core.Bool.{Bool, ◌||◌}
use Prim.Native.Nat.{ℕ, ◌+◌, ◌*◌, ◌/◌, ◌%◌}
use native.Mathlib.Nat.{div-add-mod}
use native.Mathlib.Omega.{arith}
use borrow.Author.Tests.{eqb-true, not-false}
use Rattle.scheme.specs.Checks.{length_fails, batch_fails}
use Rattle.scheme.proofs.Checks.{length_ok}
use Rattle.scheme.proofs.Order.{neither}
use Rattle.primus_lwe.proofs.Laws.{Lengths}
use Rattle.lwe_secret_key.specs.Runs.{Run}

-- 9, 11 and 12 of an encryption: a mask and a row for each message
pub run_ok : (key room errors masks n count : ℕ) {ten : Bool}
    → Lengths (length_fails key n) ten (length_fails room (count * (n + 1))) (length_fails errors count || length_fails masks (count * n))
    → Run key masks count room
run_ok key room errors masks n count passed =
    let k = sym (length_ok key n passed.key) in
    record {
      each = length_ok _ _ (neither (length_fails masks (count * n)) (length_fails errors count) passed.lent).0 ∙ ap (λ x. count * x) k;
      rooms = length_ok _ _ passed.output ∙ ap (λ x. count * (x + 1)) k;
    }

-- 9, 10 and 11 of phases: a batch that is not cut is a row for each word of the output
pub rows_ok : (key words room n : ℕ) {twelve : Bool} → Lengths (length_fails key n) (batch_fails words n) (length_fails room (words / (n + 1))) twelve
    → words ≡ room * (key + 1)
rows_ok key words room n passed =
    whole words (n + 1) (eqb-true (words % (n + 1)) 0 (not-false _ passed.input))
    ∙ ap₂ (λ (x : ℕ) (y : ℕ). x * (y + 1)) (sym (length_ok room (words / (n + 1)) passed.output)) (sym (length_ok key n passed.key))
  where
    whole : (x w : ℕ) → x % w ≡ 0 → x ≡ x / w * w
    whole x w e = omega (arith, div-add-mod x w)
