-- Words counted by how many of their digits are not zero (T-13).
--     counts_add    the counts add up to q
--     count_closed  where q is 2^k, a count is 2^d × C(L, j) × (B − 1)^j
--     count_word    every count is a word
-- Assumes nothing.
use mathlib.Core.Path.{◌≡◌, refl, sym, ◌∙◌, ap, ap₂, subst}
use mathlib.Core.Bool.{Bool, true, false, not}
use Prim.Native.Nat.{ℕ, zero, suc, ◌+◌, ◌*◌, ◌-◌, ◌/◌, ◌%◌, ◌^◌, ◌<◌, ◌≤◌}
use native.Mathlib.Nat.{pow-suc, pow-zero, mod-lt, div-add-mod, mul-zero, zero-mul, mul-one, mul-pos, pow-le-pow_right, add_comm, zero-add}
use native.Mathlib.Omega.{arith}
use native.Mathlib.Decide.{ℕ_discrete}
use lib.Dec.{eqb}
use Rattle.std.proofs.Common.{add-one}
use lib.Arith.{digits_div, digits_mod}
use lib.Pow.{pow_pos}
use lib.IntN.{ℤ, pos, ◌+ℤ◌, ◌*ℤ◌}
use borrow.Author.Tests.{eq-eqb, ne_eqb, lt-ltb, le-ltb}
use Rattle.scheme.specs.Numbers.{pick, floor_div, sum_ℕ}
use Rattle.scheme.specs.Basis.{Basis, Accepted, base, half, dropped, bound}
use Rattle.scheme.specs.Digits.{next, digit_at, digit}
use Rattle.scheme.specs.Reading.{threshold, lift, rounded}
use Rattle.scheme.proofs.Reading.{even, half_pos, all_bits, bound_twice, largest_plus}
use Rattle.scheme.proofs.Residue.{floor_div-is}
use Rattle.scheme.proofs.Naturals.{sum_ℕ_ext, sum_ℕ_add, sum_ℕ_scale, sum_ℕ_const, sum_ℕ_swap, sum_ℕ_split, sum_ℕ_blocks, sum_ℕ_one, sum_ℕ_at, sum_ℕ_two, sum_ℕ_first, eqb_suc, ones_most, choose_some}
use Rattle.scheme.proofs.Integers.{◌⊖◌, ⊖-ind, ⊖-eq, diff}
use Rattle.scheme.proofs.Balanced.{ones, low-is, next-is}
use Rattle.scheme.specs.Counts.{one_if, not_zero, nonzero, count_below, count_of, choose, closed}

-- ---- the digits of u ⊖ h·(1 + B + …): digit j is u / B^j mod B less h, so it is zero where that is h

-- how many of the lowest L digits of u in base B are not h
unfoldable others : ℕ → ℕ → ℕ → ℕ → ℕ
others B h zero u = 0
others B h (suc L) u = one_if (not (eqb (u % B) h)) + others B h L (u / B)

not_zero_at : (v h : ℕ) → not_zero (v ⊖ h) ≡ not (eqb v h)
not_zero_at v h =
    ⊖-ind (λ z. not_zero z ≡ not (eqb v h)) v h
    (λ n e. go n e (ℕ_discrete n 0))
    (λ n e. rw (ne_eqb v h (λ z. omega arith)) refl)
  where
    go : (n : ℕ) → v ≡ h + n → Dec (n ≡ 0) → not (eqb n 0) ≡ not (eqb v h)
    go n e (yes z) = rw (eq-eqb n 0 z, eq-eqb v h (omega arith)) refl
    go n e (no z) = rw (ne_eqb n 0 z, ne_eqb v h (λ w. omega arith)) refl

module _ (B h : ℕ) (even : B ≡ h + h) (positive : 0 < h) where
  others_are : (L u : ℕ) (r : ℤ) → r ≡ u ⊖ h * ones B L → sum_ℕ L (λ j. one_if (not_zero (digit_at B h r j))) ≡ others B h L u
  unfolding sum_ℕ digit_at others ones
  others_are zero u r e = refl
  others_are (suc L) u r e =
      sum_ℕ_first L (λ j. one_if (not_zero (digit_at B h r j)))
      ∙ ap₂ ◌+◌ (ap (λ z. one_if (not_zero z)) (low-is B h even positive (u % B) s r (mod-lt u (omega arith)) split) ∙ ap one_if (not_zero_at (u % B) h))
      (others_are L (u / B) (next B h r) (next-is B h even positive (u % B) s r (mod-lt u (omega arith)) split))
    where
      s : ℤ
      s = u / B ⊖ h * ones B L

      split : r ≡ (u % B ⊖ h) +ℤ pos B *ℤ s
      split = e ∙ simp diff (⊖-eq _ _ _ _ (omega (arith, div-add-mod u B)))

  -- of the numbers below B^L, how many have j such digits
  abbrev tally : ℕ → ℕ → ℕ
  tally L j = sum_ℕ (B ^ L) (λ u. one_if (eqb (others B h L u) j))

  -- B numbers with one u above the lowest digit
  one_block : (L u j : ℕ) → sum_ℕ B (λ v. one_if (eqb (others B h (suc L) (u * B + v)) j))
      ≡ one_if (eqb (others B h L u) j) + (B - 1) * one_if (eqb (suc (others B h L u)) j)
  unfolding others
  one_block L u j =
      sum_ℕ_ext B _ (λ v. pick (eqb v h) (one_if (eqb (others B h L u) j)) (one_if (eqb (suc (others B h L u)) j))) each
      ∙ sum_ℕ_one B h (one_if (eqb (others B h L u) j)) (one_if (eqb (suc (others B h L u)) j)) (omega arith)
    where
      choice : (c : Bool) (n : ℕ) → one_if (eqb (one_if (not c) + n) j) ≡ pick c (one_if (eqb n j)) (one_if (eqb (suc n) j))
      choice true n = ap (λ m. one_if (eqb m j)) (zero-add n)
      choice false n = ap (λ m. one_if (eqb m j)) (omega arith)

      lowest : (v : ℕ) → v < B → (u * B + v) % B ≡ v
      lowest v l = ap (λ n. n % B) (omega arith) ∙ digits_mod u l

      above : (v : ℕ) → v < B → (u * B + v) / B ≡ u
      above v l = ap (λ n. n / B) (omega arith) ∙ digits_div u l

      each : (v : ℕ) → v < B → one_if (eqb (one_if (not (eqb ((u * B + v) % B) h)) + others B h L ((u * B + v) / B)) j)
          ≡ pick (eqb v h) (one_if (eqb (others B h L u) j)) (one_if (eqb (suc (others B h L u)) j))
      each v l = rw (lowest v l, above v l) (choice (eqb v h) (others B h L u))

  tally_next : (L j : ℕ) → tally (suc L) j ≡ tally L j + (B - 1) * sum_ℕ (B ^ L) (λ u. one_if (eqb (suc (others B h L u)) j))
  tally_next L j =
      ap (λ n. sum_ℕ n (λ u. one_if (eqb (others B h (suc L) u) j))) (pow-suc B L)
      ∙ sum_ℕ_blocks (B ^ L) B (λ u. one_if (eqb (others B h (suc L) u) j))
      ∙ sum_ℕ_ext (B ^ L) _ _ (λ u l. one_block L u j)
      ∙ sum_ℕ_add (B ^ L) (λ u. one_if (eqb (others B h L u) j)) (λ u. (B - 1) * one_if (eqb (suc (others B h L u)) j))
      ∙ ap (λ z. tally L j + z) (sum_ℕ_scale (B ^ L) (B - 1) (λ u. one_if (eqb (suc (others B h L u)) j)))

  no_less : (L : ℕ) → sum_ℕ (B ^ L) (λ u. one_if (eqb (suc (others B h L u)) 0)) ≡ 0
  no_less L =
      sum_ℕ_ext (B ^ L) (λ u. one_if (eqb (suc (others B h L u)) 0)) (λ u. 0) (λ u l. rw (ne_eqb (suc (others B h L u)) 0 (λ e. omega arith)) refl)
      ∙ sum_ℕ_const (B ^ L) 0 ∙ mul-zero (B ^ L)

  one_less : (L j : ℕ) → sum_ℕ (B ^ L) (λ u. one_if (eqb (suc (others B h L u)) (suc j))) ≡ tally L j
  one_less L j =
      sum_ℕ_ext (B ^ L) (λ u. one_if (eqb (suc (others B h L u)) (suc j))) (λ u. one_if (eqb (others B h L u) j))
      (λ u l. ap one_if (eqb_suc (others B h L u) j))

  tally_is : (L j : ℕ) → tally L j ≡ choose L j * (B - 1) ^ j
  unfolding choose others sum_ℕ
  tally_is zero zero = rw (pow-zero B, pow-zero (B - 1)) refl
  tally_is zero (suc j) = rw (pow-zero B, ne_eqb 0 (suc j) (λ e. omega arith)) (sym (zero-mul ((B - 1) ^ suc j)))
  tally_is (suc L) zero =
      tally_next L 0
      ∙ ap₂ (λ x y. x + (B - 1) * y) (tally_is L 0) (no_less L)
      ∙ rw pow-zero (ones_only (B - 1))
    where
      ones_only : (n : ℕ) → 1 * 1 + n * 0 ≡ 1 * 1
      ones_only n = omega arith
  tally_is (suc L) (suc j) =
      tally_next L (suc j)
      ∙ ap₂ (λ x y. x + (B - 1) * y) (tally_is L (suc j)) (one_less L j ∙ tally_is L j)
      ∙ rw pow-suc (law (choose L j) (choose L (suc j)) ((B - 1) ^ j) (B - 1))
    where
      law : (x y p c : ℕ) → y * (p * c) + c * (x * p) ≡ (x + y) * (p * c)
      law x y p c = omega arith

-- ---- the words of an accepted basis

rounded_at : (D t w : ℕ) → 0 < D → floor_div (w ⊖ t * D) D ≡ w / D ⊖ t
rounded_at D t w k = floor_div-is (w ⊖ t * D) (w / D ⊖ t) D (w % D) (mod-lt w k) (simp diff (⊖-eq _ _ _ _ (omega (arith, div-add-mod w D))))

module _ (b : Basis) (ok : Accepted b) where
  abbrev D : ℕ
  D = 2 ^ dropped b

  -- h·(1 + B + …)
  abbrev t : ℕ
  t = half b * ones (base b) b.levels

  -- what a word is moved by, so that its digits are those of a number from 0 on
  abbrev shift : ℕ
  shift = bound b + t * D

  nonzero_at : (a w : ℕ) → lift b a +ℤ pos (bound b) ≡ w ⊖ t * D → nonzero b a ≡ others (base b) (half b) b.levels (w / D)
  unfolding nonzero digit rounded
  nonzero_at a w e =
      others_are (base b) (half b) (even b ok) (half_pos b ok) b.levels (w / D) (rounded b a)
      (ap (λ z. floor_div z D) e ∙ rounded_at D t w (pow_pos (dropped b)))

  nonzero_low : (a : ℕ) → a < threshold b → nonzero b a ≡ others (base b) (half b) b.levels ((shift + a) / D)
  unfolding lift
  nonzero_low a l = nonzero_at a (shift + a) (rw (lt-ltb a (threshold b) l) (simp diff (⊖-eq _ _ _ _ (omega arith))))

  module _ (full : b.modulus ≡ 2 ^ b.bits) where
    shifted : shift + threshold b ≡ b.modulus
    unfolding threshold
    shifted = omega (arith, full, all_bits b ok, bound_twice (dropped b), ap (λ n. n * D) (largest_plus b ok))

    nonzero_high : (i : ℕ) → nonzero b (threshold b + i) ≡ others (base b) (half b) b.levels (i / D)
    unfolding lift
    nonzero_high i =
        nonzero_at (threshold b + i) i
        (rw (le-ltb (threshold b + i) (threshold b) (omega arith)) (simp diff (⊖-eq _ _ _ _ (omega (arith, shifted)))))

    -- whether the number x has j such digits above its dropped bits
    abbrev here : ℕ → ℕ → ℕ
    here j x = one_if (eqb (others (base b) (half b) b.levels (x / D)) j)

    -- the words in another order
    count_shifted : (j : ℕ) → count_of b j ≡ sum_ℕ b.modulus (here j)
    unfolding count_below
    count_shifted j =
        ap (λ n. sum_ℕ n (λ a. one_if (eqb (nonzero b a) j))) (sym shifted ∙ add_comm shift (threshold b))
        ∙ sum_ℕ_split (threshold b) shift (λ a. one_if (eqb (nonzero b a) j))
        ∙ ap₂ ◌+◌ (sum_ℕ_ext (threshold b) _ (λ a. here j (shift + a)) (λ a l. ap (λ n. one_if (eqb n j)) (nonzero_low a l)))
        (sum_ℕ_ext shift _ (here j) (λ i l. ap (λ n. one_if (eqb n j)) (nonzero_high i)))
        ∙ add_comm (sum_ℕ (threshold b) (λ a. here j (shift + a))) (sum_ℕ shift (here j))
        ∙ sym (sum_ℕ_split shift (threshold b) (here j))
        ∙ ap (λ n. sum_ℕ n (here j)) shifted

    -- each number above the dropped bits stands for 2^d words
    pub count_closed : (j : ℕ) → count_of b j ≡ closed b j
    unfolding closed
    count_closed j =
        count_shifted j
        ∙ ap (λ n. sum_ℕ n (here j)) (full ∙ all_bits b ok)
        ∙ sum_ℕ_blocks (base b ^ b.levels) D (here j)
        ∙ sum_ℕ_ext (base b ^ b.levels) _ (λ u. D * one_if (eqb (others (base b) (half b) b.levels u) j)) (λ u l. block u)
        ∙ sum_ℕ_scale (base b ^ b.levels) D (λ u. one_if (eqb (others (base b) (half b) b.levels u) j))
        ∙ ap (λ n. D * n) (tally_is (base b) (half b) (even b ok) (half_pos b ok) b.levels j)
      where
        above : (u v : ℕ) → v < D → (u * D + v) / D ≡ u
        above u v l = ap (λ n. n / D) (omega arith) ∙ digits_div u l

        block : (u : ℕ) → sum_ℕ D (λ v. here j (u * D + v)) ≡ D * one_if (eqb (others (base b) (half b) b.levels u) j)
        block u =
            sum_ℕ_ext D _ (λ v. one_if (eqb (others (base b) (half b) b.levels u) j))
            (λ v l. ap (λ n. one_if (eqb (others (base b) (half b) b.levels n) j)) (above u v l))
            ∙ sum_ℕ_const D (one_if (eqb (others (base b) (half b) b.levels u) j))

-- ---- what holds of every basis

pub nonzero_most : (b : Basis) (a : ℕ) → nonzero b a ≤ b.levels
unfolding nonzero
nonzero_most b a = ones_most b.levels (λ j. not_zero (digit b a j))

-- "They add up to q", and below any n to n
pub counts_add : (b : Basis) (n : ℕ) → sum_ℕ (b.levels + 1) (count_below b n) ≡ n
unfolding count_below
counts_add b n =
    sum_ℕ_swap (b.levels + 1) n (λ j a. one_if (eqb (nonzero b a) j))
    ∙ sum_ℕ_ext n _ (λ a. 1) (λ a l. sum_ℕ_at (b.levels + 1) (nonzero b a) (omega (arith, nonzero_most b a)))
    ∙ sum_ℕ_const n 1 ∙ mul-one n

pub count_most : (b : Basis) (n j : ℕ) → count_below b n j ≤ n
unfolding count_below
count_most b n j = ones_most n (λ a. eqb (nonzero b a) j)

product_pos : (x y z : ℕ) → 1 ≤ x → 1 ≤ y → 1 ≤ z → 1 ≤ x * (y * z)
product_pos x y z h k l = mul-pos h (mul-pos k l)

-- where q is 2^k, both 0 and L digits are those of some word
module _ (b : Basis) (ok : Accepted b) (full : b.modulus ≡ 2 ^ b.bits) where
  some_none : 1 ≤ count_of b 0
  unfolding closed choose
  some_none = rw (count_closed b ok full 0, pow-zero (base b - 1)) (product_pos (2 ^ dropped b) 1 1 (pow_pos (dropped b)) (omega arith) (omega arith))

  some_all : 1 ≤ count_of b b.levels
  unfolding closed
  some_all =
      rw (count_closed b ok full b.levels)
      (product_pos (2 ^ dropped b) (choose b.levels b.levels) ((base b - 1) ^ b.levels) (pow_pos (dropped b)) (choose_some b.levels b.levels (omega arith))
      (rw pow-zero at (pow-le-pow_right least {i = 0} {j = b.levels} (omega arith))))
    where
      least : 0 < base b - 1
      least = omega (arith, even b ok, half_pos b ok)

-- no count is 2^k, so every count is a word of k bits
pub count_word : (b : Basis) → Accepted b → (j : ℕ) → j ≤ b.levels → count_of b j < 2 ^ b.bits
count_word b ok j l = go (ℕ_discrete b.modulus (2 ^ b.bits)) (ℕ_discrete j 0)
  where
    two : (i k : ℕ) → i < k → k < b.levels + 1 → count_of b i + count_of b k ≤ b.modulus
    two i k h m = rw counts_add at (sum_ℕ_two (b.levels + 1) i k (count_of b) h m)

    go : Dec (b.modulus ≡ 2 ^ b.bits) → Dec (j ≡ 0) → count_of b j < 2 ^ b.bits
    go (no n) d = omega (arith, ok.covered, count_most b b.modulus j)
    go (yes e) (yes z) = subst (λ i. count_of b i < 2 ^ b.bits) (sym z) (omega (arith, e, some_all b ok e, two 0 b.levels ok.some_level (omega arith)))
    go (yes e) (no z) = omega (arith, e, some_none b ok e, two 0 j (omega arith) (omega arith))

-- ---- the loops

-- one more digit, and one more word
pub nonzero_next : (b : Basis) (a n : ℕ) → sum_ℕ (n + 1) (λ j. one_if (not_zero (digit b a j))) ≡ sum_ℕ n (λ j. one_if (not_zero (digit b a j))) + one_if (not_zero (digit b a n))
unfolding sum_ℕ
nonzero_next b a n = rw add-one refl

pub count_next : (b : Basis) (n j : ℕ) → count_below b (n + 1) j ≡ count_below b n j + one_if (eqb (nonzero b n) j)
unfolding count_below sum_ℕ
count_next b n j = rw add-one refl

pub count_none : (b : Basis) (j : ℕ) → count_below b 0 j ≡ 0
unfolding count_below sum_ℕ
count_none b j = refl
