-- Sums of naturals, and C(n, j).
-- Assumes nothing.
use mathlib.Core.Path.{◌≡◌, refl, sym, ◌∙◌, ap, ap₂}
use mathlib.Core.Bool.{Bool, true, false}
use Prim.Native.Nat.{ℕ, zero, suc, ◌+◌, ◌*◌, ◌-◌, ◌/◌, ◌^◌, ◌<◌, ◌≤◌}
use native.Mathlib.Nat.{pow-suc, pow-zero, mul-zero, zero-mul, add-zero, add-suc, div-eq_of_eq-mul_left}
use native.Mathlib.Omega.{arith}
use native.Mathlib.Decide.{ℕ_discrete}
use lib.Dec.{eqb}
use Rattle.std.proofs.Common.{add-one}
use lib.Pow.{pow_pos}
use borrow.Author.Tests.{eq-eqb, ne_eqb}
use Rattle.scheme.specs.Numbers.{pick, sum_ℕ}
use Rattle.scheme.specs.Counts.{one_if, choose}

pub sum_ℕ_ext : (n : ℕ) (f g : ℕ → ℕ) → ((i : ℕ) → i < n → f i ≡ g i) → sum_ℕ n f ≡ sum_ℕ n g
unfolding sum_ℕ
sum_ℕ_ext zero f g h = refl
sum_ℕ_ext (suc n) f g h = ap₂ ◌+◌ (sum_ℕ_ext n f g (λ i k. h i (omega arith))) (h n (omega arith))

pub sum_ℕ_add : (n : ℕ) (f g : ℕ → ℕ) → sum_ℕ n (λ i. f i + g i) ≡ sum_ℕ n f + sum_ℕ n g
unfolding sum_ℕ
sum_ℕ_add zero f g = refl
sum_ℕ_add (suc n) f g = omega (arith, sum_ℕ_add n f g)

pub sum_ℕ_scale : (n c : ℕ) (f : ℕ → ℕ) → sum_ℕ n (λ i. c * f i) ≡ c * sum_ℕ n f
unfolding sum_ℕ
sum_ℕ_scale zero c f = sym (mul-zero c)
sum_ℕ_scale (suc n) c f = omega (arith, sum_ℕ_scale n c f)

pub sum_ℕ_const : (n c : ℕ) → sum_ℕ n (λ i. c) ≡ n * c
unfolding sum_ℕ
sum_ℕ_const zero c = sym (zero-mul c)
sum_ℕ_const (suc n) c = omega (arith, sum_ℕ_const n c)

pub sum_ℕ_swap : (n m : ℕ) (f : ℕ → ℕ → ℕ) → sum_ℕ n (λ i. sum_ℕ m (f i)) ≡ sum_ℕ m (λ j. sum_ℕ n (λ i. f i j))
unfolding sum_ℕ
sum_ℕ_swap zero m f = sym (sum_ℕ_const m 0 ∙ mul-zero m)
sum_ℕ_swap (suc n) m f = ap (λ z. z + sum_ℕ m (f n)) (sum_ℕ_swap n m f) ∙ sym (sum_ℕ_add m (λ j. sum_ℕ n (λ i. f i j)) (f n))

-- the first n terms, and k more
pub sum_ℕ_split : (n k : ℕ) (f : ℕ → ℕ) → sum_ℕ (n + k) f ≡ sum_ℕ n f + sum_ℕ k (λ i. f (n + i))
unfolding sum_ℕ
sum_ℕ_split n zero f = ap (λ m. sum_ℕ m f) (add-zero n) ∙ sym (add-zero (sum_ℕ n f))
sum_ℕ_split n (suc k) f = ap (λ m. sum_ℕ m f) (add-suc n k) ∙ ap (λ z. z + f (n + k)) (sum_ℕ_split n k f) ∙ omega arith

-- n blocks of D terms
pub sum_ℕ_blocks : (n D : ℕ) (f : ℕ → ℕ) → sum_ℕ (n * D) f ≡ sum_ℕ n (λ u. sum_ℕ D (λ v. f (u * D + v)))
unfolding sum_ℕ
sum_ℕ_blocks zero D f = ap (λ m. sum_ℕ m f) (zero-mul D)
sum_ℕ_blocks (suc n) D f =
    ap (λ m. sum_ℕ m f) next ∙ sum_ℕ_split (n * D) D f ∙ ap (λ z. z + sum_ℕ D (λ v. f (n * D + v))) (sum_ℕ_blocks n D f)
  where
    next : suc n * D ≡ n * D + D
    next = omega arith

-- of n terms one is x, where h is below n, and the others y
pub sum_ℕ_one : (n h x y : ℕ) → h < n → sum_ℕ n (λ v. pick (eqb v h) x y) ≡ x + (n - 1) * y
unfolding sum_ℕ
sum_ℕ_one zero h x y k = absurd (omega arith)
sum_ℕ_one (suc n) h x y k = go (ℕ_discrete n h) (sum_ℕ_one n h x y)
  where
    none : (m : ℕ) → m ≤ h → sum_ℕ m (λ v. pick (eqb v h) x y) ≡ m * y
    none m l = sum_ℕ_ext m _ (λ v. y) (λ v b. rw (ne_eqb v h (λ e. omega arith)) refl) ∙ sum_ℕ_const m y

    back : (n : ℕ) → suc n - 1 ≡ n
    back n = omega arith

    law : (n s : ℕ) → s ≡ x + (n - 1) * y → 0 < n → s + y ≡ x + (suc n - 1) * y
    law zero s e k = absurd (omega arith)
    law (suc n) s e k = rw (back (suc n)) (let f : s ≡ x + n * y = rw (back n) at e in omega arith)

    go : Dec (n ≡ h) → (h < n → sum_ℕ n (λ v. pick (eqb v h) x y) ≡ x + (n - 1) * y)
        → sum_ℕ n (λ v. pick (eqb v h) x y) + pick (eqb n h) x y ≡ x + (suc n - 1) * y
    go (yes e) rest = rw (eq-eqb n h e) (rw (back n) (omega (arith, none n (omega arith))))
    go (no e) rest = rw (ne_eqb n h e) (law n (sum_ℕ n (λ v. pick (eqb v h) x y)) (rest (omega arith)) (omega arith))

pub eqb_suc : (x j : ℕ) → eqb (suc x) (suc j) ≡ eqb x j
eqb_suc x j = go (ℕ_discrete x j)
  where
    go : Dec (x ≡ j) → eqb (suc x) (suc j) ≡ eqb x j
    go (yes e) = rw (eq-eqb x j e, eq-eqb (suc x) (suc j) (ap suc e)) refl
    go (no e) = rw (ne_eqb x j e, ne_eqb (suc x) (suc j) (λ z. e (omega arith))) refl

-- every number is one of those below n, once
pub sum_ℕ_at : (n k : ℕ) → k < n → sum_ℕ n (λ j. one_if (eqb k j)) ≡ 1
sum_ℕ_at n k l =
    sum_ℕ_ext n _ (λ j. pick (eqb j k) 1 0) (λ j b. go j (ℕ_discrete j k)) ∙ sum_ℕ_one n k 1 0 l ∙ law (n - 1)
  where
    go : (j : ℕ) → Dec (j ≡ k) → one_if (eqb k j) ≡ pick (eqb j k) 1 0
    go j (yes e) = rw (eq-eqb j k e, eq-eqb k j (sym e)) refl
    go j (no e) = rw (ne_eqb j k e, ne_eqb k j (λ z. e (sym z))) refl

    law : (m : ℕ) → 1 + m * 0 ≡ 1
    law m = omega arith

-- a term is within the sum, and so are two
sum_ℕ_term : (n i : ℕ) (f : ℕ → ℕ) → i < n → f i ≤ sum_ℕ n f
unfolding sum_ℕ
sum_ℕ_term zero i f h = absurd (omega arith)
sum_ℕ_term (suc n) i f h = go (ℕ_discrete n i) (sum_ℕ_term n i f)
  where
    go : Dec (n ≡ i) → (i < n → f i ≤ sum_ℕ n f) → f i ≤ sum_ℕ n f + f n
    go (yes e) rest = omega (arith, ap f e)
    go (no e) rest = omega (arith, rest (omega arith))

pub sum_ℕ_two : (n i k : ℕ) (f : ℕ → ℕ) → i < k → k < n → f i + f k ≤ sum_ℕ n f
unfolding sum_ℕ
sum_ℕ_two zero i k f l m = absurd (omega arith)
sum_ℕ_two (suc n) i k f l m = go (ℕ_discrete n k) (sum_ℕ_two n i k f l)
  where
    go : Dec (n ≡ k) → (k < n → f i + f k ≤ sum_ℕ n f) → f i + f k ≤ sum_ℕ n f + f n
    go (yes e) rest = omega (arith, ap f e, sum_ℕ_term n i f (omega arith))
    go (no e) rest = omega (arith, rest (omega arith))

-- a sum of ones is at most as long
pub ones_most : (n : ℕ) (f : ℕ → Bool) → sum_ℕ n (λ i. one_if (f i)) ≤ n
unfolding sum_ℕ
ones_most zero f = omega arith
ones_most (suc n) f = omega (arith, ones_most n f, most (f n))
  where
    most : (c : Bool) → one_if c ≤ 1
    most true = omega arith
    most false = omega arith

-- a sum by levels, the lowest apart
pub sum_ℕ_first : (n : ℕ) (f : ℕ → ℕ) → sum_ℕ (suc n) f ≡ f 0 + sum_ℕ n (λ i. f (suc i))
unfolding sum_ℕ
sum_ℕ_first zero f = omega arith
sum_ℕ_first (suc n) f = ap (λ z. z + f (suc n)) (sum_ℕ_first n f) ∙ omega arith

-- ---- C(n, j)

pub choose_some : (n j : ℕ) → j ≤ n → 1 ≤ choose n j
unfolding choose
choose_some n zero h = omega arith
choose_some zero (suc j) h = absurd (omega arith)
choose_some (suc n) (suc j) h = omega (arith, choose_some n j (omega arith))

-- from one to the next: C(n, j + 1) is C(n, j) × (n − j) / (j + 1)
choose_step : (n j : ℕ) → choose n j * n ≡ choose n (suc j) * suc j + choose n j * j
unfolding choose
choose_step zero zero = omega arith
choose_step zero (suc j) = omega arith
choose_step (suc n) zero = omega (arith, choose_step n 0)
choose_step (suc n) (suc j) = omega (arith, choose_step n j, choose_step n (suc j))

pub choose_next : (n j : ℕ) → j ≤ n → choose n j * (n - j) / (j + 1) ≡ choose n (j + 1)
choose_next n j h =
    rw add-one
    (div-eq_of_eq-mul_left (omega arith)
    (omega (arith, choose_step n j, ap (λ m. choose n j * m) split, mul_add (choose n j) j (n - j))))
  where
    split : n ≡ j + (n - j)
    split = omega arith

    mul_add : (c x y : ℕ) → c * (x + y) ≡ c * x + c * y
    mul_add c x y = omega arith

pub choose_most : (n j : ℕ) → choose n j ≤ 2 ^ n
unfolding choose
choose_most zero zero = omega (arith, pow-zero 2)
choose_most zero (suc j) = omega arith
choose_most (suc n) zero = omega (arith, pow_pos (suc n))
choose_most (suc n) (suc j) = omega (arith, choose_most n j, choose_most n (suc j), pow-suc 2 n)
