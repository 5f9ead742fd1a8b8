-- Laws of samples.
-- Assumes nothing.
use Rattle.std.proofs.Common.{◌≡◌, refl, sym, ap, ap₂, ◌∙◌, List, [], ◌∷◌, ◌++◌, ℕ, ◌+◌, ◌-◌, ◌≤◌, ◌<◌, arith, pos, neg_ℤ, length, get_or, take, drop, set, append_assoc, length-append}
use native.Mathlib.Decide.{dec_lt}
use lib.ListN.{get_or-append, length-drop}
use lib.Seq.{get_or-take, get_or-drop, get_or-append_right, length-take-le, set_at}
use borrow.Author.Tests.{leb-false, ne_eqb, lt-ltb, le-ltb}
use Rattle.scheme.specs.Numbers.{residue, tabulate}
use Rattle.scheme.specs.Lwe.{extracted}
use Rattle.scheme.specs.Checks.{refusal, packed_fails}
use Rattle.scheme.proofs.Checks.{modulus_ok, length_ok, packed_ok}
use Rattle.scheme.proofs.Extract.{mask_word}
use Rattle.scheme.proofs.Lists.{is_tabulate}
use Rattle.scheme.proofs.Order.{passed, neither}
use Rattle.primus_reduce.specs.Ring.{meant, size_of, modulo}
use Rattle.primus_reduce.specs.declared.modulus.Modulus.{Modulus}
use Rattle.lwe_tag.specs.declared.LweTag.{LweTag}
use Rattle.lwe_samples.specs.Answers.{body_fails}
use Rattle.lwe_samples.specs.Answers.{extract_rows}

-- ---- words

-- what wraps and what does not are the mask of a sample
turned : (q n i : ℕ) (x s : List ℕ) → 0 < q → i < n → n ≤ length x → length s ≡ i
    → ((k : ℕ) → k < i → get_or s k 0 ≡ modulo q (neg_ℤ (pos (get_or (drop (n - i) (take n x)) k 0))))
    → s ++ take (n - i) (take n x) ≡ tabulate n (mask_word q n x i)
turned q n i x s h l w e is =
    is_tabulate n (mask_word q n x i) _ (omega (arith, length-append s (take (n - i) (take n x)), length-take-le (n - i) (take n x) (omega (arith, front)), front)) word
  where
    front : length (take n x) ≡ n
    front = length-take-le n x w

    word : (k : ℕ) → k < n → get_or (s ++ take (n - i) (take n x)) k 0 ≡ mask_word q n x i k
    word k b = go (dec_lt k i)
      where
        go : Dec (k < i) → get_or (s ++ take (n - i) (take n x)) k 0 ≡ mask_word q n x i k
        go (yes a) =
            get_or-append s (take (n - i) (take n x)) 0 k (omega arith)
            ∙ is k a
            ∙ rw (ne_eqb q 0 (λ z. omega arith), lt-ltb k i a)
            (ap (λ (y : ℕ). residue (neg_ℤ (pos y)) q) (get_or-drop (n - i) (take n x) k 0 ∙ get_or-take n x (n - i + k) 0 (omega arith)))
        go (no a) =
            get_or-append_right s (take (n - i) (take n x)) k 0 (omega arith)
            ∙ ap (λ j. get_or (take (n - i) (take n x)) (k - j) 0) e
            ∙ get_or-take (n - i) (take n x) (k - i) 0 (omega arith)
            ∙ get_or-take n x (k - i) 0 (omega arith)
            ∙ rw (le-ltb k i (omega arith)) refl

-- a list ends with one word more
one_more : (p d : List ℕ) (m w : ℕ) → length p ≡ m → length d ≡ 1 → set (p ++ d) m w ≡ p ++ (w ∷ [])
one_more p [] m w h e = absurd (omega (arith, e))
one_more p (y ∷ []) m w h e = set_at p y [] w m h
one_more p (y ∷ z ∷ zs) m w h e = absurd (omega (arith, e))

-- and then the body
pub sample_is : (q n i : ℕ) (x mask bodies plain wrapped s p r : List ℕ) (w : ℕ) → 0 < q → i < n → n ≤ length x
    → mask ≡ take n x → bodies ≡ drop n x → plain ≡ take (n - i) mask → wrapped ≡ drop (n - i) mask → length s ≡ i → length r + i ≡ n + 1
    → ((k : ℕ) → k < i → get_or s k 0 ≡ modulo q (neg_ℤ (pos (get_or wrapped k 0)))) → p ≡ plain → w ≡ get_or bodies i 0
    → s ++ set (p ++ drop (n - i) r) (n - i) w ≡ extracted q n x i
unfolding extracted
sample_is q n i x mask bodies plain wrapped s p r w h l u me be pe we ls lr is g o =
    ap (λ b. s ++ b) (one_more p (drop (n - i) r) (n - i) w whole (omega (arith, length-drop (n - i) r)))
    ∙ sym (append_assoc s p (w ∷ []))
    ∙ ap₂ (λ a b. a ++ (b ∷ []))
    (ap (λ z. s ++ z) (g ∙ pe ∙ ap (take (n - i)) me) ∙ turned q n i x s h l u ls (λ k b. is k b ∙ ap (λ z. modulo q (neg_ℤ (pos (get_or z k 0)))) (we ∙ ap (drop (n - i)) me)))
    (o ∙ ap (λ z. get_or z i 0) be ∙ get_or-drop n x i 0)
  where
    whole : length p ≡ n - i
    whole =
        ap length (g ∙ pe)
        ∙ length-take-le (n - i) mask (omega (arith, ap length me, length-take-le n x u))

-- ---- what the checks of a sample leave

pub record Extractable (q n i len room : ℕ) : Type 0 where
  pub positive : 0 < q
  pub body : i < n
  pub within : n + i < len
  pub width : room - 1 ≡ n

pub extractable : (m : Modulus) (n : ℕ) (x : List ℕ) (g : LweTag) (i room : ℕ) → 0 ≡ refusal (extract_rows m n x g i room) → Extractable (size_of m) n i (length x) room
extractable m n x g i room e =
    let no = passed (extract_rows m n x g i room) (sym e) in
    let ten = neither (packed_fails (length x) n) (body_fails (length x) n i) (no 10 tt) in
    let l : (n ≤ length x) × (length x ≤ n + n) = packed_ok (length x) n ten.0 in
    let b : i < length x - n = leb-false (length x - n) i ten.1 in
    record { positive = omega (arith, modulus_ok 32 (meant m) (omega arith) (no 2 tt)); body = omega arith; within = omega arith; width = omega (arith, length_ok room (n + 1) (no 11 tt)) }
