-- The walk by windows and carries gives the digits.
--     window-digit    the digit of one window, as it is stored
--     walk_rest       what is left before level j
--     walk_digits     the digits of the walk are the digits of the word; the carry out of the last level is dropped
-- Assumes nothing.
use mathlib.Core.Path.{◌≡◌, refl, sym, ◌∙◌, ap}
use mathlib.Core.Bool.{Bool, true, false}
use Prim.Native.Nat.{ℕ, zero, suc, ◌+◌, ◌-◌, ◌/◌, ◌%◌, ◌^◌, ◌<◌, ◌≤◌}
use native.Mathlib.Omega.{arith}
use native.Mathlib.Decide.{dec_lt, ℕ_discrete}
use native.Mathlib.Nat.{mod-lt, mod-eq_of_lt, add-zero}
use lib.Pow.{pow_pos}
use lib.Dec.{ltb, eqb}
use lib.IntN.{pos}
use borrow.Author.Tests.{lt-ltb, le-ltb, eq-eqb, ne_eqb}
use Rattle.scheme.specs.Numbers.{pick}
use Rattle.scheme.specs.Basis.{Basis, Accepted, base, half, dropped}
use Rattle.scheme.specs.Digits.{low, next, digit, stored}
use Rattle.gadget_digits.specs.Walk.{adjusted, carry_in, bit, window, window_digit, window_carry, Walk, walk_at, walk_from, walk_digit}
use Rattle.scheme.proofs.Integers.{⊖-ind}
use Rattle.scheme.proofs.Balanced.{rest, digit_rest, rest_suc}
use Rattle.scheme.proofs.Reading.{even_base}
use Rattle.gadget_digits.proofs.Adjusted.{window-low-small, window-low_large, window-next-small, window-next_large, digit_windows}

pub bit-most : (b : Bool) → bit b ≤ 1
bit-most true = omega arith
bit-most false = omega arith

pub carry_in_most : (d v : ℕ) → carry_in d v ≤ 1
unfolding carry_in
carry_in_most zero v = omega arith
carry_in_most (suc d) v = omega (arith, mod-lt (v / 2 ^ d) {m = 2} (omega arith))

module _ (log : ℕ) (least : 1 ≤ log) where
  abbrev B : ℕ
  B = 2 ^ log

  abbrev h : ℕ
  h = 2 ^ log / 2

  even' : B ≡ h + h
  even' = even_base log least

  positive : 0 < h
  positive = omega (arith, even', pow_pos log)

  -- a window plus a carry is at most B
  pub window-most : (n c : ℕ) → c ≤ 1 → window log n c ≤ 2 ^ log
  window-most n c k = omega (arith, mod-lt n (pow_pos log))

  pub window-digit : (w q n c : ℕ) → 2 ^ log ≤ q → q ≤ 2 ^ w → c ≤ 1
      → window_digit w log (q - 2 ^ log) (window log n c) ≡ stored q (low (2 ^ log) (2 ^ log / 2) (pos (n + c)))
  unfolding window_digit stored
  window-digit w q n c fits wide k = go (dec_lt v h) (ℕ_discrete v B)
    where
      v : ℕ
      v = window log n c

      go : Dec (v < h) → Dec (v ≡ B) → pick (ltb v h) v (pick (eqb v B) 0 (v + (q - B))) % 2 ^ w ≡ stored q (low B h (pos (n + c)))
      go (yes l) e =
          rw (lt-ltb v h l)
          (mod-eq_of_lt (omega (arith, even', positive)) ∙ ap (stored q) (sym (window-low-small B h even' positive n c l)))
      go (no l) (yes e) =
          rw (le-ltb v h (omega arith), eq-eqb v B e)
          (mod-eq_of_lt (pow_pos w)
          ∙ ⊖-ind (λ z. 0 ≡ stored q z) v B (λ m f. omega arith) (λ m f. absurd (omega arith))
          ∙ ap (stored q) (sym (window-low_large B h even' positive n c k (omega arith))))
      go (no l) (no e) =
          let f : v < B = omega (arith, window-most n c k) in
          rw (le-ltb v h (omega arith), ne_eqb v B e)
          (mod-eq_of_lt (omega arith)
          ∙ ⊖-ind (λ z. v + (q - B) ≡ stored q z) v B (λ m u. absurd (omega arith)) (λ m u. omega arith)
          ∙ ap (stored q) (sym (window-low_large B h even' positive n c k (omega arith))))

  -- a step of the walk leaves what is above the lowest digit
  pub window-next : (n c : ℕ) → c ≤ 1 → pos (n / 2 ^ log + bit (window_carry log (window log n c))) ≡ next (2 ^ log) (2 ^ log / 2) (pos (n + c))
  unfolding window_carry
  window-next n c k = go (dec_lt v h)
    where
      v : ℕ
      v = window log n c

      go : Dec (v < h) → pos (n / B + bit (pick (ltb v h) false true)) ≡ next B h (pos (n + c))
      go (yes l) = rw (lt-ltb v h l) (ap pos (add-zero (n / B)) ∙ sym (window-next-small B h even' positive n c l))
      go (no l) = rw (le-ltb v h (omega arith)) (sym (window-next_large B h even' positive n c k (omega arith)))

  pub walk_carry : (s : Walk) → s.carry ≤ 1 → (j : ℕ) → (walk_at log s j).carry ≤ 1
  unfolding walk_at
  walk_carry s k zero = k
  walk_carry s k (suc j) = bit-most (window_carry log (window log (walk_at log s j).left (walk_at log s j).carry))

  pub walk_rest : (s : Walk) → s.carry ≤ 1 → (j : ℕ)
      → pos ((walk_at log s j).left + (walk_at log s j).carry) ≡ rest (2 ^ log) (2 ^ log / 2) (pos (s.left + s.carry)) j
  unfolding walk_at rest
  walk_rest s k zero = refl
  walk_rest s k (suc j) =
      window-next (walk_at log s j).left (walk_at log s j).carry (walk_carry s k j)
      ∙ ap (next (2 ^ log) (2 ^ log / 2)) (walk_rest s k j)
      ∙ sym (rest_suc (2 ^ log) (2 ^ log / 2) (pos (s.left + s.carry)) j)

pub walk_digits : (w : ℕ) (b : Basis) → Accepted b → b.modulus ≤ 2 ^ w → (a j : ℕ) → j < b.levels
    → walk_digit w b a j ≡ stored b.modulus (digit b a j)
unfolding walk_digit walk_from
walk_digits w b ok wide a j l =
    window-digit b.base_log (omega (arith, ok.log_least)) w b.modulus s.left s.carry ok.fits wide (walk_carry b.base_log (omega (arith, ok.log_least)) (walk_from b a) first j)
    ∙ ap (λ z. stored b.modulus (low (base b) (half b) z)) (walk_rest b.base_log (omega (arith, ok.log_least)) (walk_from b a) first j)
    ∙ ap (stored b.modulus) (sym (digit_rest (base b) (half b) (pos (adjusted b a / 2 ^ dropped b + carry_in (dropped b) (adjusted b a))) j))
    ∙ ap (stored b.modulus) (sym (digit_windows b ok a j l))
  where
    s : Walk
    s = walk_at b.base_log (walk_from b a) j

    first : (walk_from b a).carry ≤ 1
    first = carry_in_most (dropped b) (adjusted b a)
