-- What the checks of a call leave, by the number of a check that has passed.
-- Assumes nothing.
use mathlib.Core.Path.{◌≡◌, sym, ◌∙◌}
use mathlib.Core.Bool.{Bool, false, ◌||◌}
use mathlib.Core.List.{List}
use Prim.Native.Nat.{ℕ, ◌+◌, ◌-◌, ◌^◌, ◌<◌, ◌≤◌}
use native.Mathlib.Omega.{arith}
use Rattle.scheme.specs.Checks.{Check, refusal, applies, modulus_fails, plaintext_fails, small_fails, length_fails}
use Rattle.scheme.proofs.Checks.{modulus_ok, plaintext_ok, small_ok, length_ok}
use Rattle.scheme.proofs.Order.{neither, passed}
use Rattle.primus_reduce.specs.Ring.{meant, size_of}
use Rattle.primus_reduce.specs.declared.modulus.Modulus.{Modulus}

-- 2
pub positive : (m : Modulus) → modulus_fails (meant m) ≡ false → 0 < size_of m
positive m two = omega (arith, modulus_ok 32 (meant m) (omega arith) two)

-- and of a call's checks that have passed
pub ring_judged : (rows : List Check) (m : Modulus) → 0 ≡ refusal rows → applies rows 2 ≡ modulus_fails (meant m) → 0 < size_of m
ring_judged rows m e f = positive m (sym f ∙ passed rows (sym e) 2 tt)

-- 7 and 8 of such checks, where they judge t
pub moduli_least : (rows : List Check) (t : ℕ) → 0 ≡ refusal rows → applies rows 7 ≡ plaintext_fails t → 2 ≤ t
moduli_least rows t e f = plaintext_ok t (sym f ∙ passed rows (sym e) 7 tt)

pub moduli_below : (rows : List Check) (t : ℕ) (m : Modulus) → t < 2 ^ 32 → 0 ≡ refusal rows → applies rows 8 ≡ small_fails t (meant m) → t < size_of m
moduli_below rows t m h e f = small_ok 32 t (meant m) h (sym f ∙ passed rows (sym e) 8 tt)

-- 9, 10, 11 and 12 of such checks
pub record Lengths (nine ten eleven twelve : Bool) : Type 0 where
  pub key : nine ≡ false
  pub input : ten ≡ false
  pub output : eleven ≡ false
  pub lent : twelve ≡ false

pub lengths : (rows : List Check) → 0 ≡ refusal rows → Lengths (applies rows 9) (applies rows 10) (applies rows 11) (applies rows 12)
lengths rows e =
    let no = passed rows (sym e) in record { key = no 9 tt; input = no 10 tt; output = no 11 tt; lent = no 12 tt }

-- of one ciphertext: the mask is as long as the dimension
pub mask_ok : (mask errors n : ℕ) {nine ten eleven : Bool} → Lengths nine ten eleven (length_fails errors 1 || length_fails mask n) → mask ≡ n
mask_ok mask errors n passed = length_ok _ _ (neither (length_fails mask n) (length_fails errors 1) passed.lent).0

-- n is before its last place
pub body_at : (words n : ℕ) {nine eleven twelve : Bool} → Lengths nine (length_fails words (n + 1)) eleven twelve → words - 1 ≡ n
body_at words n passed = omega (arith, length_ok words (n + 1) passed.input)

-- and there is room for the body after the mask
pub room_ok : (room mask errors n : ℕ) {nine ten : Bool} → Lengths nine ten (length_fails room (n + 1)) (length_fails errors 1 || length_fails mask n)
    → room ≡ mask + 1
room_ok room mask errors n passed = omega (arith, length_ok room (n + 1) passed.output, mask_ok mask errors n passed)
