-- What an accepted file does to each place of a total, whatever the other places hold.
--     added-row      the ciphertext at a place is the sum of the two that meet there
--     added-phase    its phase is the sum of their phases, under every secret
--     refused_none   a refused file leaves every word and every tag; begun_none: as the first of a total too
-- Assumes nothing.
use mathlib.Core.Path.{◌≡◌, refl, sym, ap, ◌∙◌, subst}
use mathlib.Core.List.{List, [], ◌∷◌, zip_with}
use Prim.Native.Nat.{ℕ, zero, suc, ◌+◌, ◌*◌, ◌%◌, ◌<◌}
use lib.IntN.{ℤ, pos, ◌+ℤ◌}
use lib.ListN.{length, take, drop}
use borrow.Author.Tests.{ne_eqb}
use Rattle.scheme.specs.Numbers.{Cong}
use Rattle.scheme.specs.Lwe.{phase_of, add_words, row_of}
use Rattle.scheme.proofs.Lists.{length-tabulate}
use Rattle.scheme.proofs.Rows.{part_length}
use Rattle.scheme.proofs.Lwe.{phase-sum}
use Rattle.primus_reduce.specs.Ring.{size_of}
use Rattle.saved.specs.Layout.{file_word, file_words}
use Rattle.lwe_tag.specs.declared.LweTag.{LweTag}
use Rattle.lwe_parameters.specs.declared.parameter.LweDecryptionParameters.{LweDecryptionParameters}
use Rattle.pooling_refusals.specs.Rows.{begin_refusal, total_refusal}
use Rattle.pooling.specs.Total.{BeginsSaved, AddsSaved}
use Rattle.pooling.proofs.Places.{whole, positive}

-- ---- a part of two lists that are taken together

module _ (f : ℕ → ℕ → ℕ) where
  zip_none : (xs : List ℕ) → zip_with f xs [] ≡ []
  unfolding zip_with
  zip_none [] = refl
  zip_none (x ∷ xs) = refl

  take_zip : (k : ℕ) (xs ys : List ℕ) → take k (zip_with f xs ys) ≡ zip_with f (take k xs) (take k ys)
  unfolding zip_with
  take_zip zero xs ys = refl
  take_zip (suc k) [] ys = refl
  take_zip (suc k) (x ∷ xs) [] = refl
  take_zip (suc k) (x ∷ xs) (y ∷ ys) = ap (λ l. f x y ∷ l) (take_zip k xs ys)

  drop_zip : (k : ℕ) (xs ys : List ℕ) → drop k (zip_with f xs ys) ≡ zip_with f (drop k xs) (drop k ys)
  unfolding zip_with
  drop_zip zero xs ys = refl
  drop_zip (suc k) [] ys = refl
  drop_zip (suc k) (x ∷ xs) [] = sym (zip_none (drop k xs))
  drop_zip (suc k) (x ∷ xs) (y ∷ ys) = drop_zip k xs ys

pub added-row : (q n i : ℕ) (xs ys : List ℕ) → row_of n (add_words q xs ys) i ≡ add_words q (row_of n xs i) (row_of n ys i)
added-row q n i xs ys =
    ap (take (n + 1)) (drop_zip (λ x y. (x + y) % q) (i * (n + 1)) xs ys)
    ∙ take_zip (λ x y. (x + y) % q) (n + 1) (drop (i * (n + 1)) xs) (drop (i * (n + 1)) ys)

-- ---- an accepted file, and a refused one

module _ (p : LweDecryptionParameters) (s xs : List ℕ) (ts : List LweTag) (e : total_refusal p s xs ts ≡ 0) where
  pub added-phase : (i : ℕ) → i < length ts → (k : ℕ → ℤ)
      → Cong (size_of p.modulus) (pos (phase_of (size_of p.modulus) p.dimension.0 (row_of p.dimension.0 (add_words (size_of p.modulus) xs (file_words s (length xs))) i) k))
      (pos (phase_of (size_of p.modulus) p.dimension.0 (row_of p.dimension.0 xs i) k)
      +ℤ pos (phase_of (size_of p.modulus) p.dimension.0 (row_of p.dimension.0 (file_words s (length xs)) i) k))
  added-phase i h k =
      let q = size_of p.modulus in
      let n = p.dimension.0 in
      let ys = file_words s (length xs) in
      let w = whole p s xs ts e in
      subst (λ l. Cong q (pos (phase_of q n l k)) (pos (phase_of q n (row_of n xs i) k) +ℤ pos (phase_of q n (row_of n ys i) k))) (sym (added-row q n i xs ys))
      (phase-sum q (positive p s xs ts e) n (row_of n xs i) (row_of n ys i) k (part_length (n + 1) (length ts) xs i w h)
      (part_length (n + 1) (length ts) ys i (length-tabulate (length xs) (file_word s) ∙ w) h))

pub refused_none : {p : LweDecryptionParameters} {s xs words : List ℕ} {ts tags : List LweTag} {r : ℕ} → AddsSaved p s xs ts r words tags → (r ≡ 0 → ⊥)
    → (words ≡ xs) × (tags ≡ ts)
refused_none {p} {s} {xs} {ts} a h =
    let n = ne_eqb (total_refusal p s xs ts) 0 (λ z. h (a.answered ∙ z)) in (a.adds ∙ rw n, a.tagged ∙ rw n)

pub begun_none : {p : LweDecryptionParameters} {s xs words : List ℕ} {ts tags : List LweTag} {r : ℕ} → BeginsSaved p s xs ts r words tags → (r ≡ 0 → ⊥)
    → (words ≡ xs) × (tags ≡ ts)
begun_none {p} {s} {xs} {ts} a h =
    let n = ne_eqb (begin_refusal p s (length xs) (length ts)) 0 (λ z. h (a.answered ∙ z)) in (a.begins ∙ rw n, a.tagged ∙ rw n)
