-- Sums of products, each factor by its word.
-- Assumes nothing.
use Rattle.std.proofs.Common.{◌≡◌, ℕ, ◌+◌, ◌-◌, ◌*◌, ◌%◌, ◌<◌, ◌≤◌, List, map, min, length, get_or, ℤ, pos, sym, refl, ap, ◌∙◌, add-one, arith}
use native.Mathlib.Nat.{mul-zero}
use native.Mathlib.Decide.{dec_le}
use lib.ListN.{get_or-eq_default}
use Rattle.std.proofs.lemmas.List.{get_or-map, length-map}
use Rattle.scheme.specs.Numbers.{residue, sum_ℕ}
use Rattle.scheme.proofs.Sums.{sum-pos, sum_ℕ_tail}
use Rattle.primus_reduce.specs.Ring.{modulo}
use Rattle.primus_reduce.specs.Dot.{dot, product}
use Rattle.primus_reduce.proofs.Laws.{modulo_is}

pub sum_none : (f : ℕ → ℕ) → sum_ℕ 0 f ≡ 0
unfolding sum_ℕ
sum_none f = refl

sum_more : (n : ℕ) (f : ℕ → ℕ) → sum_ℕ (n + 1) f ≡ sum_ℕ n f + f n
unfolding sum_ℕ
sum_more n f = ap (λ m. sum_ℕ m f) (add-one n)

-- the whole sum is the sum over the shorter of the two
dot-is : (xs ys : List ℕ) → dot xs ys ≡ pos (sum_ℕ (min (length xs) (length ys)) (product xs ys))
unfolding dot
dot-is xs ys = sum-pos (length xs) (product xs ys) ∙ ap pos (go (dec_le (length xs) (length ys)))
  where
    zeros : (i : ℕ) → length ys ≤ i → product xs ys i ≡ 0
    zeros i l = ap (λ y. get_or xs i 0 * y) (get_or-eq_default ys 0 {n = i} (omega arith)) ∙ mul-zero (get_or xs i 0)

    go : Dec (length xs ≤ length ys) → sum_ℕ (length xs) (product xs ys) ≡ sum_ℕ (min (length xs) (length ys)) (product xs ys)
    go (yes l) = ap (λ m. sum_ℕ m (product xs ys)) (omega arith)
    go (no l) =
        ap (λ m. sum_ℕ m (product xs ys)) whole
        ∙ sum_ℕ_tail (length ys) (length xs - length ys) (product xs ys) zeros
        ∙ ap (λ m. sum_ℕ m (product xs ys)) shorter
      where
        whole : length xs ≡ length xs - length ys + length ys
        whole = omega arith

        shorter : length ys ≡ min (length xs) (length ys)
        shorter = omega arith

module _ {B : Type 0} (w : B → ℕ) (xs : List ℕ) (ys : List B) where
  -- one product more, of the numbers at place n
  pub product_next : (n : ℕ) (y : B) (r : ℕ) → n < length ys → y ≡ get_or ys n y → r ≡ w y
      → sum_ℕ (n + 1) (product xs (map w ys)) ≡ sum_ℕ n (product xs (map w ys)) + get_or xs n 0 * r
  product_next n y r h is e =
      sum_more n (product xs (map w ys))
      ∙ ap (λ z. sum_ℕ n (product xs (map w ys)) + get_or xs n 0 * z) (get_or-map w ys n y 0 h ∙ ap w (sym is) ∙ sym e)

  -- a sum of words modulo q, where the words stand for what D sums
  pub dot_mod : (q r : ℕ) (D : ℤ) → modulo q (dot xs (map w ys)) ≡ modulo q D → (q ≡ 0 → ⊥)
      → r ≡ sum_ℕ (min (length xs) (length ys)) (product xs (map w ys)) % q → r ≡ modulo q D
  unfolding residue
  dot_mod q r D law h e =
      modulo_is q r (dot xs (map w ys)) h
      (e
      ∙ ap (λ n. sum_ℕ (min (length xs) n) (product xs (map w ys)) % q) (sym (length-map ys w))
      ∙ ap (λ z. residue z q) (sym (dot-is xs (map w ys))))
      ∙ law
