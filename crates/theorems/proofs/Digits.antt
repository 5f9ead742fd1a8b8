-- Digits that were written rebuild the word. That an explicit modulus is a word of 32 bits is what its type says.
--     decompose_rebuilds   the words that `decompose` wrote
--     slice_rebuilds       the words that `decompose_slice_to` wrote for word i: one of each run
-- Assumes nothing.
use mathlib.Core.Path.{◌≡◌, sym, ap, subst, ◌∙◌}
use mathlib.Core.List.{List, ◌++◌}
use Prim.Native.Nat.{ℕ, ◌+◌, ◌*◌, ◌<◌, ◌≤◌}
use native.Mathlib.Omega.{arith}
use lib.IntN.{ℤ, pos, ◌+ℤ◌, ◌-ℤ◌, ◌*ℤ◌}
use lib.ListN.{length, get_or}
use Rattle.scheme.specs.Numbers.{Cong, sum_to}
use Rattle.scheme.specs.Modulus.{Fits}
use Rattle.scheme.specs.Basis.{Basis, Accepted, half, weight}
use Rattle.scheme.specs.Reading.{lift, reading, rounding}
use Rattle.scheme.specs.Digits.{Balanced, digit, stored, digits_of, runs_of}
use Rattle.scheme.specs.Checks.{Check, refusal}
use Rattle.scheme.proofs.Integers.{⊖-eq, diff, diffs₂}
use Rattle.scheme.proofs.Residue.{cong_refl, cong_of_eq, cong_sym, cong_trans, cong_add, cong_mul}
use Rattle.scheme.proofs.Sums.{sum_ext, sum_cong}
use Rattle.scheme.proofs.Lists.{get_d_tabulate, get_or_runs}
use Rattle.scheme.proofs.Checks.{word_ok, words_ok}
use Rattle.scheme.proofs.Order.{passed, passed_part}
use Rattle.scheme.proofs.Reading.{even, rounding-bound, digit-range, digits_sum}
use Rattle.scheme.proofs.Stored.{signed-stored, stored_cong}
use Rattle.scheme.proofs.Phase.{lift_cong}
use Rattle.primus_reduce.specs.Ring.{meant, size_of}
use Rattle.gadget_constants.proofs.Sound.{sound-basis}
use Rattle.primus_decompose.specs.declared.primitive.basis.ApproxSignedBasis.{ApproxSignedBasis}
use Rattle.primus_decompose.specs.Answers.{basis, rows, digit_rows, slice_rows, Decomposes, DecomposesSlice}
use Rattle.theorems.specs.Rebuilt.{read_back, Rebuilds}
use Rattle.theorems.proofs.Calls.{wrote}

-- ---- the law: L words that are the stored digits of a

module _ (b : Basis) (ok : Accepted b) (a : ℕ) (h : a < b.modulus) (w : ℕ → ℕ) (is : (j : ℕ) → j < b.levels → w j ≡ stored b.modulus (digit b a j)) where
  wide : half b + half b ≤ b.modulus
  wide = omega (arith, even b ok, ok.fits)

  word-digit : (j : ℕ) → j < b.levels → Cong b.modulus (pos (w j)) (digit b a j)
  word-digit j k = rw (is j k) (stored_cong b.modulus (half b) (digit b a j) wide (digit-range b ok a j))

  back_is : (j : ℕ) → j < b.levels → read_back b (w j) ≡ digit b a j
  back_is j k = rw (is j k) (signed-stored b.modulus (half b) (digit b a j) wide (digit-range b ok a j))

  word_sum : Cong b.modulus (pos a) (sum_to b.levels (λ j. pos (w j) *ℤ pos (weight b j)) +ℤ rounding b a)
  unfolding rounding
  word_sum =
      cong_sym
      (cong_trans
      (cong_add
      (cong_trans (sum_cong b.modulus b.levels _ _ (λ j k. cong_mul (word-digit j k) (cong_refl b.modulus (pos (weight b j))))) (cong_of_eq b.modulus (digits_sum b ok a h)))
      (cong_refl b.modulus (lift b a -ℤ reading b a)))
      (cong_trans (cong_of_eq b.modulus (law (reading b a) (lift b a))) (lift_cong b a)))
    where
      law : (r l : ℤ) → r +ℤ (l -ℤ r) ≡ l
      law = diffs₂ _ λ a b c d. simp diff (⊖-eq _ _ _ _ (omega arith))

  pub rebuilt : Rebuilds b a w
  rebuilt =
      record {
        rebuilds = word_sum;
        within = rounding-bound b ok a;
        digits =
            record {
              range = λ j k. subst (Balanced (half b)) (sym (back_is j k)) (digit-range b ok a j);
              sum = sum_ext b.levels _ _ (λ j k. ap (λ z. z *ℤ pos (weight b j)) (back_is j k)) ∙ digits_sum b ok a h;
            };
      }

-- ---- the calls

module _ (b : ApproxSignedBasis) (word : Fits 32 (meant b.modulus)) where
  sound : (more : List Check) → refusal (rows b ++ more) ≡ 0 → Accepted (basis b)
  sound more e = (sound-basis b.modulus b.log_basis.0 b.level_count.0 word (passed_part (rows b) more e)).accepted

  pub digits-accepted : (a room : ℕ) → refusal (digit_rows b a room) ≡ 0 → Rebuilds (basis b) a (λ j. get_or (digits_of (basis b) a) j 0)
  digits-accepted a room e =
      rebuilt (basis b) (sound _ e) a (word_ok (size_of b.modulus) a (passed (digit_rows b a room) e 14 tt)) _
      (λ j k. get_d_tabulate b.level_count.0 _ j k)

  pub runs_accepted : (xs : List ℕ) (room : ℕ) → refusal (slice_rows b xs room) ≡ 0 → (i : ℕ) → i < length xs
      → Rebuilds (basis b) (get_or xs i 0) (λ j. get_or (runs_of (basis b) xs) (j * length xs + i) 0)
  runs_accepted xs room e i h =
      rebuilt (basis b) (sound _ e) (get_or xs i 0) (words_ok (size_of b.modulus) xs (passed (slice_rows b xs room) e 14 tt) i h) _
      (λ j k. get_or_runs (basis b) xs 0 b.level_count.0 j i k h ∙ ap (λ n. stored (size_of b.modulus) (digit (basis b) (get_or xs i 0) n)) (plain j))
    where
      plain : (j : ℕ) → 0 + j ≡ j
      plain j = omega arith

  pub decompose_rebuilds : (a : ℕ) {before after : List ℕ} → Decomposes b a before 0 after → Rebuilds (basis b) a (λ j. get_or after j 0)
  decompose_rebuilds a {before} c = let w = wrote c.writes in rw w.1 (digits-accepted a (length before) w.0)

  pub slice_rebuilds : (xs : List ℕ) {before after : List ℕ} → DecomposesSlice b xs before 0 after → (i : ℕ) → i < length xs
      → Rebuilds (basis b) (get_or xs i 0) (λ j. get_or after (j * length xs + i) 0)
  slice_rebuilds xs {before} c = let w = wrote c.writes in rw w.1 (runs_accepted xs (length before) w.0)
