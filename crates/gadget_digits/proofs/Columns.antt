-- The loop over levels, and the digits that it writes.
-- Assumes nothing.
use mathlib.Core.Path.{◌≡◌, refl, sym, ap, ap₂, ◌∙◌}
use mathlib.Core.List.{List}
use mathlib.Core.Logic.{◌≢◌}
use Prim.Native.Nat.{ℕ, zero, suc, ◌+◌, ◌-◌, ◌*◌, ◌/◌, ◌%◌, ◌^◌, ◌≤◌, ◌<◌}
use native.Mathlib.Nat.{eq_of_mul-eq-mul_right}
use native.Mathlib.Numerals.{add-one}
use native.Mathlib.Decide.{ℕ_discrete}
use native.Mathlib.Omega.{arith}
use lib.Arith.{digits_mod}
use lib.Dec.{eqb}
use lib.ListN.{length, get_or, set, length-set}
use lib.Seq.{get_or-set_same, get_or-set_other}
use Rattle.scheme.specs.Basis.{Basis, Accepted, dropped, base}
use Rattle.scheme.specs.Digits.{digit, stored}
use Rattle.gadget_digits.specs.Walk.{bit, adjusted, carry_in, window, window_digit, window_carry, walk_at, walk_from, walk_digit}
use Rattle.gadget_digits.proofs.Walk.{walk_digits, carry_in_most}
use Rattle.gadget_digits.specs.declared.SignedDecomposer.{SignedDecomposer}
use Rattle.gadget_digits.specs.Step.{window_of, step_of, decomposer_of}
use Rattle.gadget_digits.specs.Column.{after, step_digit, Column}

-- ---- one column

-- two places of one column, and a place of another column
same_column : (j k n i : ℕ) → 0 < n → k ≢ j → k * n + i ≢ j * n + i
same_column j k n i p h e = h (eq_of_mul-eq-mul_right n p k j (omega arith))

other_column : (j k n i l : ℕ) → i < n → l < n → l ≢ i → k * n + l ≢ j * n + i
other_column j k n i l h g d e = d (sym (digits_mod k g) ∙ ap (λ p. p % n) e ∙ digits_mod j h)

pub column_none : (d : SignedDecomposer) (n i : ℕ) (out : List ℕ) → Column d 0 n i out out
column_none d n i out = record { same_length = refl; digits = λ j h. absurd (omega arith); others = λ j k h g. refl }

pub column_next : (d e : SignedDecomposer) (j n i : ℕ) (out₀ out : List ℕ) → i < n → j * n + i < length out → e ≡ after j d → Column d j n i out₀ out
    → Column d (j + 1) n i out₀ (set out (j * n + i) (step_of e).digit)
column_next d e j n i out₀ out h l s c =
    record {
      same_length = length-set out (j * n + i) (step_of e).digit ∙ c.same_length;
      digits = λ k g. go k g (ℕ_discrete k j);
      others = λ k m g z. get_or-set_other out (j * n + i) (k * n + m) (step_of e).digit 0 (other_column j k n i m h g z) ∙ c.others k m g z;
    }
  where
    go : (k : ℕ) → k < j + 1 → Dec (k ≡ j) → get_or (set out (j * n + i) (step_of e).digit) (k * n + i) 0 ≡ step_digit d k
    go k g (yes p) =
        ap (λ x. get_or (set out (j * n + i) (step_of e).digit) (x * n + i) 0) p
        ∙ get_or-set_same out (j * n + i) (step_of e).digit 0 l
        ∙ ap (λ x. (step_of x).digit) s ∙ ap (step_digit d) (sym p)
    go k g (no p) =
        get_or-set_other out (j * n + i) (k * n + i) (step_of e).digit 0 (same_column j k n i (omega arith) p) ∙ c.digits k (omega arith)

pub after_next : (j : ℕ) (d e : SignedDecomposer) → e ≡ after j d → (step_of e).next ≡ after (j + 1) d
unfolding after
after_next j d e s = ap (λ x. (step_of x).next) s ∙ ap (λ n. after n d) (sym (add-one j))

pub after_none : (d : SignedDecomposer) → d ≡ after 0 d
unfolding after
after_none d = refl

-- ---- the steps of a word's decomposer are its walk

module _ (b : Basis) (a : ℕ) where
  -- what the decomposer holds before level j
  record Holds (j : ℕ) (d : SignedDecomposer) : Type 0 where
    value_is : d.value ≡ (walk_at b.base_log (walk_from b a) j).left
    carry-is : bit d.carry ≡ (walk_at b.base_log (walk_from b a) j).carry
    log_is : d.log_basis ≡ b.base_log
    offset_is : d.modulus_minus_basis ≡ b.modulus - base b

  bit_of : (n : ℕ) → n ≤ 1 → bit (eqb n 1) ≡ n
  bit_of zero h = refl
  bit_of (suc zero) h = refl
  bit_of (suc (suc n)) h = absurd (omega arith)

  holds : (j : ℕ) → Holds j (after j (decomposer_of b a))
  unfolding after step_of walk_at walk_from
  holds zero =
      record { value_is = refl; carry-is = bit_of (carry_in (dropped b) (adjusted b a)) (carry_in_most (dropped b) (adjusted b a)); log_is = refl; offset_is = refl }
  holds (suc j) =
      let h = holds j in
      record {
        value_is = ap₂ (λ x l. x / 2 ^ l) h.value_is h.log_is;
        carry-is = ap bit (ap₂ window_carry h.log_is (win j h));
        log_is = h.log_is;
        offset_is = h.offset_is;
      }
    where
      win : (j : ℕ) → Holds j (after j (decomposer_of b a))
          → window_of (after j (decomposer_of b a)) ≡ window b.base_log (walk_at b.base_log (walk_from b a) j).left (walk_at b.base_log (walk_from b a) j).carry
      win j h =
          ap₂ (λ l x. window l x (bit (after j (decomposer_of b a)).carry)) h.log_is h.value_is
          ∙ ap (window b.base_log (walk_at b.base_log (walk_from b a) j).left) h.carry-is

  step_walk : (j : ℕ) → step_digit (decomposer_of b a) j ≡ walk_digit 32 b a j
  unfolding step_of walk_digit
  step_walk j =
      let h = holds j in
      ap₂ (λ l o. window_digit 32 l o (window_of (after j (decomposer_of b a)))) h.log_is h.offset_is
      ∙ ap (window_digit 32 b.base_log (b.modulus - base b))
      (ap₂ (λ l x. window l x (bit (after j (decomposer_of b a)).carry)) h.log_is h.value_is
      ∙ ap (window b.base_log (walk_at b.base_log (walk_from b a) j).left) h.carry-is)

-- the digits that the code writes are those of the scheme
pub step_digits : (b : Basis) → Accepted b → b.modulus ≤ 2 ^ 32 → (a j : ℕ) → j < b.levels
    → step_digit (decomposer_of b a) j ≡ stored b.modulus (digit b a j)
step_digits b ok wide a j h = step_walk b a j ∙ walk_digits 32 b ok wide a j h
