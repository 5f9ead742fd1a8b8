-- Lists of signed numbers, and the digits that the program shows.
-- Assumes nothing.
use mathlib.Core.Path.{◌≡◌, refl, sym, ap, ap₂, ◌∙◌, subst}
use mathlib.Core.Bool.{Bool, true, false}
use mathlib.Core.List.{List, ◌∷◌}
use Prim.Native.Nat.{ℕ, zero, suc, ◌+◌, ◌/◌, ◌^◌, ◌<◌}
use native.Mathlib.Nat.{mod-eq_of_lt}
use native.Mathlib.Decide.{ℕ_discrete}
use native.Mathlib.Omega.{arith}
use lib.Dec.{ltb}
use lib.IntN.{ℤ, pos, ◌-ℤ◌}
use lib.ListN.{length, get_or, set}
use lib.Seq.{get_or-set_same, get_or-set_other, ext_get_or}
use lib.Pow.{pow-lt, pow_mono}
use borrow.Author.Tests.{ltb-true}
use Rattle.scheme.specs.Numbers.{pick}
use Rattle.scheme.specs.Basis.{half}
use Rattle.scheme.specs.Digits.{digit, stored}
use Rattle.scheme.specs.Checks.{refusal}
use Rattle.scheme.proofs.Checks.{word_ok}
use Rattle.scheme.proofs.Order.{passed, passed_part}
use Rattle.scheme.proofs.Reading.{even, digit-range}
use Rattle.scheme.proofs.Stored.{signed-stored}
use Rattle.primus_reduce.specs.Ring.{size_of}
use Rattle.gadget_digits.specs.Column.{step_digit}
use Rattle.gadget_digits.specs.declared.SignedDecomposer.{SignedDecomposer}
use Rattle.gadget_digits.proofs.Columns.{step_digits}
use Rattle.gadget_constants.specs.Prepared.{Ready}
use Rattle.gadget_constants.specs.Word.{decomposer_from}
use Rattle.gadget_constants.specs.declared.prepared.PreparedBasis.{PreparedBasis}
use Rattle.gadget_constants.proofs.Constants.{decomposer_ready}
use Rattle.primus_decompose.specs.Answers.{basis, rows, word_rows, base_word, signed_digit, prepared_by, prepared_answer, WhereReady}
use Rattle.std.proofs.Common.{Result, Ok, Err}
use Rattle.check_order.specs.declared.refusal.Refusal.{Refusal}
use Rattle.check_order.proofs.Answers.{accepted}
use Rattle.primus_decompose.specs.declared.primitive.basis.ApproxSignedBasis.{ApproxSignedBasis}
use Rattle.readings_digits.specs.Digits.{numbers, stepped_digit, shown_digit}

pub length-numbers : (n : ℕ) (f : ℕ → ℤ) → length (numbers n f) ≡ n
unfolding numbers
length-numbers zero f = refl
length-numbers (suc n) f = ap suc (length-numbers n (λ i. f (suc i)))

get_or-numbers : (n : ℕ) (f : ℕ → ℤ) (i : ℕ) → i < n → get_or (numbers n f) i (pos 0) ≡ f i
unfolding numbers
get_or-numbers zero f i h = absurd (omega arith)
get_or-numbers (suc n) f zero h = refl
get_or-numbers (suc n) f (suc i) h = get_or-numbers n (λ i. f (suc i)) i (omega arith)

pub numbers_ext : (n : ℕ) (f g : ℕ → ℤ) → ((i : ℕ) → i < n → f i ≡ g i) → numbers n f ≡ numbers n g
unfolding numbers
numbers_ext zero f g h = refl
numbers_ext (suc n) f g h = ap₂ ◌∷◌ (h 0 (omega arith)) (numbers_ext n (λ i. f (suc i)) (λ i. g (suc i)) (λ i k. h (suc i) (omega arith)))

-- a list of n numbers is those of f where each is
pub is_numbers : (n : ℕ) (f : ℕ → ℤ) (xs : List ℤ) → length xs ≡ n → ((i : ℕ) → i < n → get_or xs i (pos 0) ≡ f i) → xs ≡ numbers n f
is_numbers n f xs l h =
    ext_get_or (pos 0) xs (numbers n f) (l ∙ sym (length-numbers n f)) (λ i k. h i (omega arith) ∙ sym (get_or-numbers n f i (omega arith)))

-- a loop that stores f j at place j
pub store_next : (w : List ℤ) (f : ℕ → ℤ) (j : ℕ) (v : ℤ) → j < length w → v ≡ f j → ((i : ℕ) → i < j → get_or w i (pos 0) ≡ f i)
    → (i : ℕ) → i < j + 1 → get_or (set w j v) i (pos 0) ≡ f i
store_next w f j v l e h i k = go (ℕ_discrete i j)
  where
    go : Dec (i ≡ j) → get_or (set w j v) i (pos 0) ≡ f i
    go (yes p) = ap (λ n. get_or (set w j v) n (pos 0)) p ∙ get_or-set_same w j v (pos 0) l ∙ e ∙ ap f (sym p)
    go (no p) = get_or-set_other w j i v (pos 0) p ∙ h i (omega arith)

-- ---- the digits of a word that is not refused, by the constants of its basis

module _ (b : ApproxSignedBasis) (a : ℕ) (z : refusal (word_rows b a) ≡ 0) {r : Result PreparedBasis Refusal} (e : r ≡ prepared_answer b) (w : WhereReady r) where
  made : r ≡ Ok (prepared_by b)
  made = e ∙ accepted (rows b) (prepared_by b) (passed_part (rows b) _ z)

  pub no_refusal : {n : Refusal} → r ≡ Err n → ⊥
  no_refusal {n} f = let g : ◌≡◌ {A = Result PreparedBasis Refusal} (Err n) (Ok (prepared_by b)) = sym f ∙ made in cc

  -- the constants are those of the basis
  ready : Ready (prepared_by b)
  ready = subst WhereReady made w

  constants : {p : PreparedBasis} → r ≡ Ok p → p ≡ prepared_by b
  constants {p} f = let g : ◌≡◌ {A = Result PreparedBasis Refusal} (Ok p) (Ok (prepared_by b)) = sym f ∙ made in cc

  base_word_lem : base_word b ≡ 2 ^ b.log_basis.0
  base_word_lem = mod-eq_of_lt (pow-lt ready.sound.log_most)

  shown_digit_lem : (j : ℕ) → j < b.level_count.0 → signed_digit b (step_digit (decomposer_from (prepared_by b) a) j) ≡ digit (basis b) a j
  shown_digit_lem j h =
      let ok = ready.sound.accepted in
      ap (λ d. signed_digit b (step_digit d j)) (decomposer_ready (prepared_by b) ready a (word_ok (size_of b.modulus) a (passed (word_rows b a) z 14 tt)))
      ∙ ap (signed_digit b) (step_digits (basis b) ok (omega (arith, ok.covered, pow_mono {i = (basis b).bits} {j = 32} ready.sound.bits-within)) a j h)
      ∙ ap (λ B. pick (ltb (stored (basis b).modulus (digit (basis b) a j)) (B / 2)) (pos (stored (basis b).modulus (digit (basis b) a j)))
      (pos (stored (basis b).modulus (digit (basis b) a j)) -ℤ pos (size_of b.modulus))) base_word_lem
      ∙ signed-stored (basis b).modulus (half (basis b)) (digit (basis b) a j) (omega (arith, even (basis b) ok, ok.fits)) (digit-range (basis b) ok a j)

  pub shown_digits : {p : PreparedBasis} {d : SignedDecomposer} → r ≡ Ok p → d ≡ decomposer_from p a → numbers 16 (stepped_digit b d) ≡ numbers 16 (shown_digit b a)
  shown_digits {p} {d} f g =
      ap (λ d. numbers 16 (stepped_digit b d)) (g ∙ ap (λ p. decomposer_from p a) (constants f))
      ∙ numbers_ext 16 _ _ (λ j h. at j (ltb j b.level_count.0) refl)
    where
      at : (j : ℕ) (c : Bool) → ltb j b.level_count.0 ≡ c
          → pick c (signed_digit b (step_digit (decomposer_from (prepared_by b) a) j)) (pos 0) ≡ pick c (digit (basis b) a j) (pos 0)
      at j true e = shown_digit_lem j (ltb-true j b.level_count.0 e)
      at j false e = refl
