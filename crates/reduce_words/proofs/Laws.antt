-- Laws of sums, differences and products of words modulo q.
-- Assumes nothing.
use Rattle.std.proofs.Common.{◌≡◌, ℕ, ◌+◌, ◌-◌, ◌*◌, ◌/◌, ◌%◌, ◌^◌, ◌<◌, ◌≤◌, true, pos, ◌+ℤ◌, ◌-ℤ◌, sym, ap, ◌∙◌, ap₂, mod-lt, mod-eq_of_lt, mul-le-mul, one-mul, arith, eqb-true}
use native.Mathlib.Nat.{div-add-mod}
use lib.Arith.{digits_mod}
use lib.Bits.{bit_and, and_mask}
use lib.Pow.{pow-lt, mod-mod-pow, ones_split, ones_lt, high}
use lib.Count.{count_trailing_zeros, trailing_le}
use Rattle.scheme.specs.Numbers.{residue}
use Rattle.scheme.specs.Modulus.{is_power}
use Rattle.scheme.proofs.Integers.{◌⊖◌, ⊖-eq, diff}
use Rattle.scheme.proofs.Residue.{residue-is}

-- ---- powers of two

-- `1 << t` of w bits
pub one_shl : (w t : ℕ) → t < w → (1 * 2 ^ t) % 2 ^ w ≡ 2 ^ t
one_shl w t h = ap (λ x. x % 2 ^ w) (one-mul (2 ^ t)) ∙ mod-eq_of_lt (pow-lt h)

-- the low i of w ones
ones_shr : (w i : ℕ) → i ≤ w → (2 ^ w - 1) / 2 ^ (w - i) ≡ 2 ^ i - 1
ones_shr w i h = ap (λ n. (2 ^ n - 1) / 2 ^ (w - i)) whole ∙ ap (λ n. n / 2 ^ (w - i)) (ones_split i (w - i)) ∙ high (2 ^ i - 1) (w - i) (ones_lt (w - i))
  where
    whole : w ≡ i + (w - i)
    whole = omega arith

-- a mask of i ones keeps x mod 2^i
masked : (w x i : ℕ) → i ≤ w → bit_and x ((2 ^ w - 1) / 2 ^ (w - i)) ≡ x % 2 ^ i
masked w x i h = ap (bit_and x) (ones_shr w i h) ∙ and_mask x i

-- of 32 bits
pub mask_of_32 : (x i : ℕ) → i ≤ 32 → bit_and x (4294967295 / 2 ^ (32 - i)) ≡ x % 2 ^ i
mask_of_32 x i h = masked 32 x i h

-- a power of two divides 2^w
pub power_wraps : (w q s : ℕ) → true ≡ is_power w q → s % 2 ^ w % q ≡ s % q
power_wraps w q s e = ap (λ n. s % 2 ^ w % n) (sym p) ∙ ap (λ n. s % 2 ^ n % 2 ^ t) whole ∙ mod-mod-pow s (w - t) t ∙ ap (λ n. s % n) p
  where
    t : ℕ
    t = count_trailing_zeros w q

    p : 2 ^ t ≡ q
    p = eqb-true _ _ (sym e)

    whole : w ≡ w - t + t
    whole = omega (arith, trailing_le w q)

-- ---- remainders

pub mod-is : (q k r n : ℕ) → r < q → n ≡ q * k + r → n % q ≡ r
mod-is q k r n h e = ap (λ m. m % q) (omega arith) ∙ digits_mod k h

pub product-most : (a b : ℕ) → a < 2 ^ 32 → b < 2 ^ 32 → a * b ≤ 4294967295 * 4294967295
product-most a b h k = mul-le-mul {n₁ = a} {m₁ = b} {n₂ = 4294967295} {m₂ = 4294967295} (omega arith) (omega arith)

module _ (q a b x y : ℕ) (p : 0 < q) (ex : x ≡ a % q) (ey : y ≡ b % q) where
  right_below : y < q
  right_below = omega (arith, mod-lt b p)

  pub add_small : x < q - y → x + y ≡ residue (pos a +ℤ pos b) q
  unfolding residue
  add_small h = sym (mod-is q (a / q + b / q) (x + y) (a + b) (omega (arith, right_below)) (omega (arith, div-add-mod a q, div-add-mod b q)))

  pub add_large : q - y ≤ x → x - (q - y) ≡ residue (pos a +ℤ pos b) q
  unfolding residue
  add_large h =
      sym
      (mod-is q (a / q + b / q + 1) (x - (q - y)) (a + b) (omega (arith, right_below, mod-lt a p))
      (omega (arith, right_below, div-add-mod a q, div-add-mod b q)))

  pub sub_small : y ≤ x → x - y ≡ residue (pos a -ℤ pos b) q
  sub_small h =
      sym
      (residue-is (pos a -ℤ pos b) (a / q ⊖ b / q) q (x - y) (omega (arith, mod-lt a p))
      (simp diff (⊖-eq _ _ _ _ (omega (arith, div-add-mod a q, div-add-mod b q)))))

  pub sub_large : x < y → q - (y - x) ≡ residue (pos a -ℤ pos b) q
  sub_large h =
      sym
      (residue-is (pos a -ℤ pos b) (a / q ⊖ (b / q + 1)) q (q - (y - x)) (omega (arith, right_below))
      (simp diff (⊖-eq _ _ _ _ (omega (arith, right_below, div-add-mod a q, div-add-mod b q)))))

-- ---- a number of 128 bits

-- 2^64 = (2^32)²
pub wide_mod : (q half turn high low s : ℕ) → 0 < q → half ≡ 4294967296 % q → turn ≡ half * half % q → high ≡ s / 2 ^ 64 % q → low ≡ s % 2 ^ 64 % q
    → (turn * high + low) % q ≡ s % q
wide_mod q half turn high low s p e₁ e₂ e₃ e₄ =
    halves (s / 2 ^ 64) (s % 2 ^ 64) e₃ e₄ ∙ ap (λ n. n % q) (omega arith)
  where
    halves : (H L : ℕ) → high ≡ H % q → low ≡ L % q → (turn * high + low) % q ≡ (H * 2 ^ 64 + L) % q
    halves H L e₃ e₄ = go (4294967296 / q) (half * half / q) (H / q) (L / q)
        (omega (arith, div-add-mod 4294967296 q)) (omega (arith, div-add-mod (half * half) q)) (omega (arith, div-add-mod H q)) (omega (arith, div-add-mod L q))
      where
        same : (u v k : ℕ) → v ≡ u + q * k → u % q ≡ v % q
        same u v k e = sym (mod-is q (u / q + k) (u % q) v (mod-lt u p) (omega (arith, div-add-mod u q)))

        square : (c h k m : ℕ) → c ≡ q * k + h → h * h ≡ q * m + turn → c * c ≡ turn + q * (q * k * k + 2 * h * k + m)
        square c h k m e f = rw e (omega (arith, f))

        go : (k m n o : ℕ) → 4294967296 ≡ q * k + half → half * half ≡ q * m + turn → H ≡ q * n + high → L ≡ q * o + low
            → (turn * high + low) % q ≡ (H * 18446744073709551616 + L) % q
        go k m n o f₁ f₂ f₃ f₄ =
            same (turn * high + low) (H * 18446744073709551616 + L) ((q * k * k + 2 * half * k + m) * H + turn * n + o)
            (ap₂ (λ x y. x + y) (ap (λ x. H * x) (square 4294967296 half k m f₁ f₂)) f₄ ∙ rest (q * k * k + 2 * half * k + m))
          where
            rest : (z : ℕ) → H * (turn + q * z) + (q * o + low) ≡ turn * high + low + q * (z * H + turn * n + o)
            rest z = omega (arith, ap (λ x. turn * x) f₃)
