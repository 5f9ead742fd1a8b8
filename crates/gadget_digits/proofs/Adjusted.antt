-- The digits by windows of an adjusted word and a carry, as the decomposer takes them.
-- Assumes nothing.
use mathlib.Core.Path.{◌≡◌, sym, ◌∙◌, ap}
use mathlib.Core.Bool.{Bool, true, false}
use lib.Dec.{ltb}
use Prim.Native.Nat.{ℕ, zero, suc, ◌+◌, ◌*◌, ◌-◌, ◌/◌, ◌%◌, ◌^◌, ◌<◌, ◌≤◌}
use native.Mathlib.Omega.{arith}
use native.Mathlib.Nat.{mod-lt, div-add-mod, pow-suc, div-div-eq-div-mul, add-div_right, div-one}
use lib.Pow.{pow_pos}
use lib.IntN.{ℤ, pos, negsuc, ◌+ℤ◌, ◌-ℤ◌, ◌*ℤ◌}
use Rattle.scheme.specs.Numbers.{pick, floor_div, residue, Cong}
use Rattle.scheme.specs.Digits.{low, next, digit_at, digit}
use Rattle.scheme.specs.Basis.{Basis, Accepted, base, half, dropped, bound_of, bound}
use Rattle.scheme.specs.Reading.{threshold, lift, rounded, reading, rounding}
use Rattle.gadget_digits.specs.Walk.{adjusted, carry_in}
use Rattle.scheme.proofs.Integers.{◌⊖◌, ⊖-eq, ⊖-inj, diff, diffs₁, diffs₂, diffs₃}
use Rattle.scheme.proofs.Residue.{div-mod, residue-is, floor_div-is, cong_refl}
use Rattle.scheme.proofs.Balanced.{low-is, next-is, low-next, low_balanced, balanced_from}
use Rattle.scheme.proofs.Reading.{even, half_pos, all_bits}

module _ (B h : ℕ) (even : B ≡ h + h) (positive : 0 < h) where
  -- one level: n is what is left of the word and c the carry, so the number left is n + c
  pub window-low-small : (n c : ℕ) → n % B + c < h → low B h (pos (n + c)) ≡ pos (n % B + c)
  window-low-small n c k =
      low-is B h even positive (n % B + c + h) (pos (n / B)) (pos (n + c)) (omega arith)
      (simp diff (⊖-eq _ _ _ _ (omega (arith, div-add-mod n B))))
      ∙ simp diff (⊖-eq _ _ _ _ (omega arith))

  pub window-next-small : (n c : ℕ) → n % B + c < h → next B h (pos (n + c)) ≡ pos (n / B)
  window-next-small n c k =
      next-is B h even positive (n % B + c + h) (pos (n / B)) (pos (n + c)) (omega arith)
      (simp diff (⊖-eq _ _ _ _ (omega (arith, div-add-mod n B))))

  pub window-low_large : (n c : ℕ) → c ≤ 1 → h ≤ n % B + c → low B h (pos (n + c)) ≡ n % B + c ⊖ B
  window-low_large n c l k =
      low-is B h even positive (n % B + c - h) (pos (n / B + 1)) (pos (n + c)) (omega (arith, mod-lt n {m = B} (omega arith)))
      (simp diff (⊖-eq _ _ _ _ (omega (arith, div-add-mod n B))))
      ∙ ⊖-eq _ _ _ _ (omega arith)

  pub window-next_large : (n c : ℕ) → c ≤ 1 → h ≤ n % B + c → next B h (pos (n + c)) ≡ pos (n / B + 1)
  window-next_large n c l k =
      next-is B h even positive (n % B + c - h) (pos (n / B + 1)) (pos (n + c)) (omega (arith, mod-lt n {m = B} (omega arith)))
      (simp diff (⊖-eq _ _ _ _ (omega (arith, div-add-mod n B))))

  -- the digits below level L depend on the number modulo B^L only
  module _ (r s k : ℤ) (e : r ≡ s +ℤ pos B *ℤ k) where
    split : (v : ℕ) → low B h s ≡ v ⊖ h → r ≡ (v ⊖ h) +ℤ pos B *ℤ (next B h s +ℤ k)
    split v f = e ∙ ap (λ z. z +ℤ pos B *ℤ k) (sym (low-next B h even positive s)) ∙ rw f (tidy (v ⊖ h) (next B h s) k)
      where
        tidy : (l n k : ℤ) → l +ℤ pos B *ℤ n +ℤ pos B *ℤ k ≡ l +ℤ pos B *ℤ (n +ℤ k)
        tidy = diffs₃ _ λ a b c d e f. simp diff (⊖-eq _ _ _ _ (omega arith))

    low_periodic : low B h r ≡ low B h s
    low_periodic =
        let v : (v : ℕ) × (v < h + h) × (low B h s ≡ v ⊖ h) = balanced_from h (low B h s) (low_balanced B h even positive s) in
        low-is B h even positive v.0 (next B h s +ℤ k) r (omega arith) (split v.0 v.2) ∙ sym v.2

    next_periodic : next B h r ≡ next B h s +ℤ k
    next_periodic =
        let v : (v : ℕ) × (v < h + h) × (low B h s ≡ v ⊖ h) = balanced_from h (low B h s) (low_balanced B h even positive s) in
        next-is B h even positive v.0 (next B h s +ℤ k) r (omega arith) (split v.0 v.2)

  pub digit_periodic : (L : ℕ) (r s k : ℤ) → r ≡ s +ℤ pos (B ^ L) *ℤ k → (j : ℕ) → j < L → digit_at B h r j ≡ digit_at B h s j
  unfolding digit_at
  digit_periodic zero r s k e j l = absurd (omega arith)
  digit_periodic (suc L) r s k e zero l = low_periodic r s (pos (B ^ L) *ℤ k) (e ∙ rw pow-suc (above s k (B ^ L)))
    where
      above : (s k : ℤ) (p : ℕ) → s +ℤ pos (p * B) *ℤ k ≡ s +ℤ pos B *ℤ (pos p *ℤ k)
      above = diffs₂ _ λ a b c d p. simp diff (⊖-eq _ _ _ _ (omega arith))
  digit_periodic (suc L) r s k e (suc j) l =
      digit_periodic L (next B h r) (next B h s) k (next_periodic r s (pos (B ^ L) *ℤ k) (e ∙ rw pow-suc (above s k (B ^ L)))) j (omega arith)
    where
      above : (s k : ℤ) (p : ℕ) → s +ℤ pos (p * B) *ℤ k ≡ s +ℤ pos B *ℤ (pos p *ℤ k)
      above = diffs₂ _ λ a b c d p. simp diff (⊖-eq _ _ _ _ (omega arith))

-- the carry into the lowest level is the highest dropped bit
pub first_carry_lem : (d v : ℕ) → (v + 2 ^ d) / 2 ^ suc d ≡ v / 2 ^ suc d + v / 2 ^ d % 2
first_carry_lem d v =
    ap (λ n. (v + 2 ^ d) / n) (pow-suc 2 d) ∙ sym (div-div-eq-div-mul (v + 2 ^ d) (2 ^ d) 2)
    ∙ ap (λ n. n / 2) (add-div_right v (pow_pos d)) ∙ up (v / 2 ^ d)
    ∙ ap (λ n. n + v / 2 ^ d % 2) (div-div-eq-div-mul v (2 ^ d) 2 ∙ ap (λ n. v / n) (sym (pow-suc 2 d)))
  where
    up : (y : ℕ) → (y + 1) / 2 ≡ y / 2 + y % 2
    up y = omega arith

carry_in_lem : (d v : ℕ) → (v + bound_of d) / 2 ^ d ≡ v / 2 ^ d + carry_in d v
unfolding bound_of carry_in
carry_in_lem zero v = omega (arith, div-one (v + 0), div-one v)
carry_in_lem (suc d) v = first_carry_lem d v

adjusted_cong : (b : Basis) → Accepted b → (a : ℕ) → Cong (2 ^ b.bits) (lift b a) (pos (adjusted b a))
unfolding lift adjusted
adjusted_cong b ok a = go (ltb a (threshold b))
  where
    e : 2 ^ b.bits ≡ 2 ^ b.bits - b.modulus + b.modulus
    e = omega (arith, ok.covered)

    law : (D q a : ℕ) → pos a -ℤ pos q ≡ pos (a + D) +ℤ pos (D + q) *ℤ negsuc 0
    law D q a = simp diff (⊖-eq _ _ _ _ (omega arith))

    go : (c : Bool) → Cong (2 ^ b.bits) (pick c (pos a) (pos a -ℤ pos b.modulus)) (pos (pick c a (a + (2 ^ b.bits - b.modulus))))
    go true = cong_refl (2 ^ b.bits) (pos a)
    go false =
        record {
          turns = negsuc 0;
          eq =
              law (2 ^ b.bits - b.modulus) b.modulus a
              ∙ ap (λ n. pos (a + (2 ^ b.bits - b.modulus)) +ℤ pos n *ℤ negsuc 0) (sym e);
        }

module _ (b : Basis) (ok : Accepted b) where
  -- the adjusted word v agrees with a' modulo 2^k: then its windows give the digits
  pub digit-adjusted : (a v : ℕ) → Cong (2 ^ b.bits) (lift b a) (pos v) → (j : ℕ) → j < b.levels
      → digit b a j ≡ digit_at (base b) (half b) (pos ((v + bound b) / 2 ^ dropped b)) j
  unfolding digit rounded
  digit-adjusted a v c =
      digit_periodic (base b) (half b) (even b ok) (half_pos b ok) b.levels (floor_div (lift b a +ℤ pos (bound b)) (2 ^ dropped b)) (pos ((v + bound b) / 2 ^ dropped b)) c.turns
      (floor_div-is (lift b a +ℤ pos (bound b)) (pos ((v + bound b) / 2 ^ dropped b) +ℤ pos (base b ^ b.levels) *ℤ c.turns) (2 ^ dropped b) ((v + bound b) % 2 ^ dropped b) (mod-lt (v + bound b) (pow_pos (dropped b)))
      (ap (λ z. z +ℤ pos (bound b)) c.eq ∙ rw (all_bits b ok) (tidy c.turns (base b ^ b.levels) (2 ^ dropped b) (bound b))))
    where
      tidy : (k : ℤ) (N D H : ℕ) → pos v +ℤ pos (N * D) *ℤ k +ℤ pos H ≡ pos D *ℤ (pos ((v + H) / D) +ℤ pos N *ℤ k) +ℤ pos ((v + H) % D)
      tidy = diffs₁ _ λ c d N D H. simp diff (⊖-eq _ _ _ _ (omega (arith, div-add-mod (v + H) D)))

  -- the digits of a word are those of its adjusted word above the dropped bits, plus the carry
  pub digit_windows : (a j : ℕ) → j < b.levels
      → digit b a j ≡ digit_at (base b) (half b) (pos (adjusted b a / 2 ^ dropped b + carry_in (dropped b) (adjusted b a))) j
  digit_windows a j h =
      digit-adjusted a (adjusted b a) (adjusted_cong b ok a) j h
      ∙ ap (λ n. digit_at (base b) (half b) (pos n) j) (carry_in_lem (dropped b) (adjusted b a))

  -- the dropped part of a' + H is that of the adjusted word
  pub rest_adjusted : (a : ℕ) → residue (lift b a +ℤ pos (bound b)) (2 ^ dropped b) ≡ (adjusted b a + bound b) % 2 ^ dropped b
  rest_adjusted a =
      let c = adjusted_cong b ok a in
      residue-is (lift b a +ℤ pos (bound b)) (pos ((adjusted b a + bound b) / 2 ^ dropped b) +ℤ pos (base b ^ b.levels) *ℤ c.turns) (2 ^ dropped b) ((adjusted b a + bound b) % 2 ^ dropped b)
      (mod-lt (adjusted b a + bound b) (pow_pos (dropped b)))
      (ap (λ z. z +ℤ pos (bound b)) c.eq ∙ rw (all_bits b ok) (tidy (adjusted b a) c.turns (base b ^ b.levels) (2 ^ dropped b) (bound b)))
    where
      tidy : (v : ℕ) (k : ℤ) (N D H : ℕ) → pos v +ℤ pos (N * D) *ℤ k +ℤ pos H ≡ pos D *ℤ (pos ((v + H) / D) +ℤ pos N *ℤ k) +ℤ pos ((v + H) % D)
      tidy v = diffs₁ _ λ c d N D H. simp diff (⊖-eq _ _ _ _ (omega (arith, div-add-mod (v + H) D)))

  -- ε is the dropped part less H
  pub rounding_rest : (a : ℕ) → rounding b a ≡ pos ((adjusted b a + bound b) % 2 ^ dropped b) -ℤ pos (bound b)
  unfolding rounding reading rounded
  rounding_rest a =
      law (lift b a) (rounded b a) (2 ^ dropped b) (bound b) (residue (lift b a +ℤ pos (bound b)) (2 ^ dropped b)) (div-mod (lift b a +ℤ pos (bound b)) (2 ^ dropped b) (pow_pos (dropped b)))
      ∙ ap (λ n. pos n -ℤ pos (bound b)) (rest_adjusted a)
    where
      law : (x r : ℤ) (D H v : ℕ) → x +ℤ pos H ≡ pos D *ℤ r +ℤ pos v → x -ℤ r *ℤ pos D ≡ pos v -ℤ pos H
      law = diffs₂ _ λ c d e f D H v k. simp diff (⊖-eq _ _ _ _ (omega (arith, ⊖-inj _ _ _ _ (simp diff at k))))

  -- the reading is a' − ε
  pub reading_rest : (a : ℕ) → reading b a
      ≡ pos (a + bound b) -ℤ pos ((adjusted b a + bound b) % 2 ^ dropped b + pick (ltb a (threshold b)) 0 b.modulus)
  unfolding rounding lift
  reading_rest a = go (ltb a (threshold b)) (reading b a) ((adjusted b a + bound b) % 2 ^ dropped b) (bound b) (rounding_rest a)
    where
      law : (r : ℤ) (a s H l : ℕ) → pos a -ℤ pos l -ℤ r ≡ pos s -ℤ pos H → r ≡ pos (a + H) -ℤ pos (s + l)
      law = diffs₁ _ λ c d a s H l k. simp diff (⊖-eq _ _ _ _ (omega (arith, ⊖-inj _ _ _ _ (simp diff at k))))

      none : (a : ℕ) → pos a -ℤ pos 0 ≡ pos a
      none a = simp diff (⊖-eq _ _ _ _ (omega arith))

      go : (c : Bool) (r : ℤ) (s H : ℕ) → pick c (pos a) (pos a -ℤ pos b.modulus) -ℤ r ≡ pos s -ℤ pos H
          → r ≡ pos (a + H) -ℤ pos (s + pick c 0 b.modulus)
      go true r s H k = law r a s H 0 (ap (λ z. z -ℤ r) (none a) ∙ k)
      go false r s H k = law r a s H b.modulus k
