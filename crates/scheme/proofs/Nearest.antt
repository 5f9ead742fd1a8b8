-- A word as the number nearest zero that it can stand for.
--     nearest_cong       w or w − q agrees with w modulo q
--     nearest-least      of w and w − q, `nearest` is no further from zero than either
--     nearest_centred    of a word it lies in (−q/2, q/2],
--     nearest_only       and is the only number there that agrees with the word modulo q
--     error_at_word           error i of a run of words is its word's,
--     error_residue      and has that word's residue; error_length: as many numbers as errors
-- Assumes nothing.
use mathlib.Core.Path.{◌≡◌, refl, sym}
use mathlib.Core.Bool.{Bool, true, false}
use mathlib.Core.List.{List, [], ◌∷◌}
use Prim.Native.Nat.{ℕ, zero, suc, ◌+◌, ◌*◌, ◌-◌, ◌<◌, ◌≤◌}
use native.Mathlib.Omega.{arith}
use native.Mathlib.Nat.{le_refl}
use lib.Dec.{leb}
use lib.IntN.{ℤ, pos, nat_abs, ◌+ℤ◌, ◌-ℤ◌, ◌*ℤ◌}
use lib.ListN.{length, get_or, length-map}
use borrow.Author.Tests.{leb-true, leb-false, le-leb}
use Rattle.scheme.specs.Numbers.{pick, residue, Cong, nearest, Centred}
use Rattle.scheme.specs.Lwe.{words, signed, Errors, ErrorWords, ErrorNumbers, error_count, error_values}
use Rattle.scheme.proofs.Integers.{⊖-ind, ⊖-eq, ⊖-inj, ⊖-le, ⊖-le⁻, ⊖-lt, ⊖-lt⁻, diff, diffs₂, diffs₃}
use Rattle.scheme.proofs.Residue.{cong_refl, cong_trans, residue_cong}

pub nearest_cong : (q w : ℕ) → Cong q (pos w) (nearest q w)
unfolding nearest
nearest_cong q w = go (leb (2 * w) q)
  where
    law : (x y : ℤ) → x ≡ x -ℤ y +ℤ y *ℤ pos 1
    law = diffs₂ _ λ a b c d. simp diff (⊖-eq _ _ _ _ (omega arith))

    go : (c : Bool) → Cong q (pos w) (pick c (pos w) (pos w -ℤ pos q))
    go true = cong_refl q (pos w)
    go false = record { turns = pos 1; eq = law (pos w) (pos q) }

-- |w − q| for w up to q
less_abs : (w q : ℕ) → w ≤ q → nat_abs (pos w -ℤ pos q) ≡ q - w
less_abs w q h = simp diff (⊖-ind (λ z. nat_abs z ≡ q - w) (w + 0) (0 + q) (λ n e. omega arith) (λ n e. omega arith))

pub nearest-least : (q w : ℕ) → w ≤ q → (nat_abs (nearest q w) ≤ w) × (nat_abs (nearest q w) ≤ nat_abs (pos w -ℤ pos q))
unfolding nearest
nearest-least q w h = go (leb (2 * w) q) refl
  where
    go : (c : Bool) → leb (2 * w) q ≡ c → (nat_abs (pick c (pos w) (pos w -ℤ pos q)) ≤ w) × (nat_abs (pick c (pos w) (pos w -ℤ pos q)) ≤ nat_abs (pos w -ℤ pos q))
    go true e = (le_refl w, omega (arith, leb-true (2 * w) q e, less_abs w q h))
    go false e = (omega (arith, leb-false (2 * w) q e, less_abs w q h), le_refl (nat_abs (pos w -ℤ pos q)))

pub nearest_centred : (q w : ℕ) → w < q → Centred q (nearest q w)
unfolding nearest
nearest_centred q w h = go (leb (2 * w) q) refl
  where
    go : (c : Bool) → leb (2 * w) q ≡ c → Centred q (pick c (pos w) (pos w -ℤ pos q))
    go true e =
        record { above = simp diff (⊖-lt _ _ _ _ (omega arith)); most = simp diff (⊖-le _ _ _ _ (omega (arith, leb-true (2 * w) q e))) }
    go false e =
        record {
          above = simp diff (⊖-lt _ _ _ _ (omega (arith, leb-false (2 * w) q e)));
          most = simp diff (⊖-le _ _ _ _ (omega arith));
        }

-- e turns of q on one side and f on the other are as many, where the two sides lie less than q apart
no_turn : (q e f s t : ℕ) → s + q * f ≡ t + q * e → s < q + t → t < q + s → s ≡ t
no_turn q zero zero s t h u v = omega (arith, h)
no_turn q zero (suc f) s t h u v = absurd (omega (arith, h, v))
no_turn q (suc e) zero s t h u v = absurd (omega (arith, h, u))
no_turn q (suc e) (suc f) s t h u v = no_turn q e f s t (omega (arith, h)) u v

centred_same : (q : ℕ) (k x y : ℤ) → Centred q x → Centred q y → x ≡ y +ℤ pos q *ℤ k → x ≡ y
centred_same q =
    diffs₃ _ λ e f a b c d x y h.
    let above_x : 0 + 2 * b < 2 * a + q = omega (arith, ⊖-lt⁻ _ _ _ _ (simp diff at x.above)) in
    let most_x : 2 * a ≤ q + 2 * b = omega (arith, ⊖-le⁻ _ _ _ _ (simp diff at x.most)) in
    let above_y : 0 + 2 * d < 2 * c + q = omega (arith, ⊖-lt⁻ _ _ _ _ (simp diff at y.above)) in
    let most_y : 2 * c ≤ q + 2 * d = omega (arith, ⊖-le⁻ _ _ _ _ (simp diff at y.most)) in
    let turned : (a + d) + q * f ≡ (c + b) + q * e = omega (arith, ⊖-inj _ _ _ _ (simp diff at h)) in
    ⊖-eq a b c d (no_turn q e f (a + d) (c + b) turned (omega arith) (omega arith))

pub nearest_only : (q w : ℕ) → w < q → (z : ℤ) → Centred q z → Cong q z (pos w) → z ≡ nearest q w
nearest_only q w h z c e =
    let t : Cong q z (nearest q w) = cong_trans e (nearest_cong q w) in
    centred_same q t.turns z (nearest q w) c (nearest_centred q w h) t.eq

-- ---- errors

nought : (q : ℕ) → nearest q 0 ≡ pos 0
unfolding nearest
nought q = rw (le-leb (2 * 0) q (omega arith))

-- past the end both are 0
pub error_at_word : (q : ℕ) (ws : List ℕ) (i : ℕ) → signed (error_values q (ErrorWords ws)) i ≡ nearest q (get_or ws i 0)
error_at_word q [] i = sym (nought q)
error_at_word q (w ∷ ws) zero = refl
error_at_word q (w ∷ ws) (suc i) = error_at_word q ws i

pub error_residue : (q : ℕ) → 0 < q → (ws : List ℕ) (i : ℕ) → residue (words ws i) q ≡ residue (signed (error_values q (ErrorWords ws)) i) q
error_residue q h ws i = rw (error_at_word q ws i) (residue_cong h (nearest_cong q (get_or ws i 0)))

pub error_length : (q : ℕ) (es : Errors) → length (error_values q es) ≡ error_count es
error_length q (ErrorWords ws) = length-map ws (nearest q)
error_length q (ErrorNumbers es) = refl
