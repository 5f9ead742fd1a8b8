-- 4 is retired, since it never applied, so the table without it gives the numbers that the table with it gave.
--     one_level_fits   whatever passes 1 to 3 has room for one level
--     same_first       the first number is the same with 4 and without it
--     never_given      4 is no refusal of any call
-- Assumes nothing.
use mathlib.Core.Path.{◌≡◌, refl, sym, ap}
use mathlib.Core.Bool.{Bool, true, false, ◌||◌}
use mathlib.Core.List.{List, [], ◌∷◌, ◌++◌}
use Prim.Native.Nat.{ℕ, ◌+◌, ◌^◌, ◌≤◌, ◌<◌}
use native.Mathlib.Nat.{le-div_iff_mul-le}
use native.Mathlib.Decide.{dec_le}
use native.Mathlib.Omega.{arith}
use lib.Dec.{T, eqb}
use lib.Pow.{pow-lt}
use borrow.Author.Tests.{le-ltb, eq-eqb}
use Rattle.scheme.specs.Numbers.{pick, tabulate}
use Rattle.scheme.specs.Modulus.{Modulus, size, bits, Fits}
use Rattle.scheme.specs.Basis.{full_count}
use Rattle.scheme.specs.Checks.{Check, order, applies, first_in, refusal, basis_rows, base_log_fails, modulus_fails, base_fails}
use Rattle.scheme.specs.Retired.{order_with_four, of_01, full_fails, with_four, refusal_with_four}
use Rattle.scheme.proofs.Checks.{base_log_ok, modulus_ok, base_ok}
use Rattle.scheme.proofs.Modulus.{bits_cover}
use Rattle.scheme.proofs.Order.{has, neither}

-- document 01 numbers its checks in the order in which they are judged
pub numbered : of_01 order_with_four ≡ tabulate 17 (λ i. i + 1)
unfolding tabulate
numbered = refl

-- at any width w
pub one_level_fits : (w : ℕ) (m : Modulus) (b : ℕ) → Fits w m → base_log_fails w b ≡ false → modulus_fails m ≡ false → base_fails b m ≡ false
    → 1 ≤ full_count (bits w m) b
one_level_fits w m b f e₁ e₂ e₃ =
    let l : (2 ≤ b) × (b < w) = base_log_ok w b e₁ in
    let q : 4 ≤ size w m = modulus_ok w m (omega arith) e₂ in
    let c : size w m ≤ 2 ^ bits w m = bits_cover w m (omega arith) f in
    (le-div_iff_mul-le {k = b} {x = 1} {y = bits w m} (omega arith)).1 (omega (arith, least (bits w m) (dec_le b (bits w m)) c (base_ok w b m l.1 e₃)))
  where
    least : (k : ℕ) → Dec (b ≤ k) → size w m ≤ 2 ^ k → 2 ^ b ≤ size w m → b ≤ k
    least k (yes e) c u = e
    least k (no e) c u = absurd (omega (arith, pow-lt {i = k} {j = b} (omega arith)))

-- a fourth condition that holds only where one of the first three does is never the first
skipped : (a b c d : Bool) (x : ℕ) → (a ≡ false → b ≡ false → c ≡ false → d ≡ false)
    → pick a 1 (pick b 2 (pick c 3 (pick d 4 x))) ≡ pick a 1 (pick b 2 (pick c 3 x))
skipped true b c d x h = refl
skipped false true c d x h = refl
skipped false false true d x h = refl
skipped false false false d x h = ap (λ z. pick z 4 x) (h refl refl refl)

-- a call's checks are those of its basis and `more`, none of which is 4
pub same_first : (w : ℕ) (m : Modulus) (b L : ℕ) (more : List Check) → Fits w m → applies more 4 ≡ false
    → refusal_with_four (with_four w m b (basis_rows w m b L ++ more)) ≡ refusal (basis_rows w m b L ++ more)
unfolding refusal first_in
same_first w m b L more f none =
    skipped _ _ _ (applies more 4 || full_fails (bits w m) b) _ (λ e₁ e₂ e₃.
    let fits = one_level_fits w m b f (neither (base_log_fails w b) (applies more 1) e₁).0 (neither (modulus_fails m) (applies more 2) e₂).0
    (neither (base_fails b m) (applies more 3) e₃).0 in
    rw (none, le-ltb (full_count (bits w m) b) 1 fits))

-- a refusal stands in the list
listed : (f : ℕ → Bool) (ks : List ℕ) (k : ℕ) → first_in f ks ≡ k → (k ≡ 0 → ⊥) → T (has k ks)
unfolding first_in
listed f [] k e h = absurd (h (sym e))
listed f (x ∷ xs) k e h = go (f x) e (λ z. listed f xs k z h)
  where
    or_later : (b later : Bool) → T later → T (pick b true later)
    or_later true later t = tt
    or_later false later t = t

    go : (b : Bool) → pick b x (first_in f xs) ≡ k → (first_in f xs ≡ k → T (has k xs)) → T (has k (x ∷ xs))
    go true e rest = rw (eq-eqb x k e) tt
    go false e rest = or_later (eqb x k) (has k xs) (rest e)

pub never_given : (rows : List Check) → refusal rows ≡ 4 → ⊥
unfolding refusal
never_given rows e = listed (applies rows) order 4 e (λ z. omega arith)
