-- Laws of the steps: products, bodies and phases.
-- Assumes nothing.
use mathlib.Core.Path.{◌≡◌, sym, subst, ap, ◌∙◌}
use mathlib.Core.List.{List, [], ◌∷◌, ◌++◌}
use Prim.Native.Nat.{ℕ, ◌+◌, ◌-◌, ◌<◌}
use native.Mathlib.Nat.{mod-eq_of_lt}
use native.Mathlib.Omega.{arith}
use lib.IntN.{ℤ, pos, ◌+ℤ◌, ◌-ℤ◌, ◌*ℤ◌}
use lib.ListN.{length, get_or-append}
use lib.Seq.{get_or-append_seam}
use borrow.Author.Tests.{ne_eqb}
use Rattle.scheme.specs.Numbers.{residue, Cong, sum_to}
use Rattle.scheme.specs.Lwe.{inner, body_of, encrypted, phase_of}
use Rattle.scheme.proofs.Residue.{cong_refl, cong_of_eq, cong_trans, cong_add, residue_cong}
use Rattle.scheme.proofs.Sums.{sum_ext}
use Rattle.scheme.proofs.Lwe.{cong_sub, stands}
use Rattle.primus_reduce.specs.Ring.{modulo}

-- the word that a reduction gives stands for its number
pub modulo_stands : {q w : ℕ} → 0 < q → (z : ℤ) → w ≡ modulo q z → Cong q (pos w) z
modulo_stands {q} {w} h z e = rw (e ∙ plain) (stands h z)
  where
    plain : modulo q z ≡ residue z q
    plain = rw (ne_eqb q 0 (λ f. omega arith))

-- ---- encryption and phase, by the words that stand for ⟨a, s⟩ and e

-- two sums of words are one
pub body_is : (q sum e p r b : ℕ) → 0 < q → r ≡ modulo q (pos sum +ℤ pos e) → b ≡ modulo q (pos r +ℤ pos p) → b ≡ residue (pos sum +ℤ pos e +ℤ pos p) q
body_is q sum e p r b h f g = g ∙ rw (ne_eqb q 0 (λ z. omega arith)) (residue_cong h (cong_add (modulo_stands h (pos sum +ℤ pos e) f) (cong_refl q (pos p))))

pub encrypted_is : (q : ℕ) (a : List ℕ) (s : ℕ → ℤ) (e : ℤ) (p sum w : ℕ) → 0 < q → sum ≡ modulo q (inner (length a) a s) → w ≡ modulo q e
    → a ++ (residue (pos sum +ℤ pos w +ℤ pos p) q ∷ []) ≡ encrypted q (length a) a s e (pos p)
unfolding encrypted body_of
encrypted_is q a s e p sum w h es ew =
    ap (λ b. a ++ (b ∷ [])) (residue_cong h (cong_add (cong_add (modulo_stands h (inner (length a) a s) es) (modulo_stands h e ew)) (cong_refl q (pos p))))

-- the sum over the words before the body
inner_mask : (a : List ℕ) (b : ℕ) (s : ℕ → ℤ) → inner (length a) a s ≡ inner (length a) (a ++ (b ∷ [])) s
unfolding inner
inner_mask a b s = sum_ext (length a) _ _ (λ i l. ap (λ (y : ℕ). pos y *ℤ s i) (sym (get_or-append a (b ∷ []) 0 i l)))

pub phase_is : (q : ℕ) (x a : List ℕ) (s : ℕ → ℤ) (b sum : ℕ) {r : ℕ} → 0 < q → (x ≡ a ++ (b ∷ [])) × (length a + 1 ≡ length x)
    → sum ≡ modulo q (inner (length a) a s) → r ≡ modulo q (pos b -ℤ pos sum) → r ≡ phase_of q (length x - 1) x s
unfolding phase_of
phase_is q x a s b sum {r} h l es er = rw (l.0) (subst (λ n. r ≡ phase_of q n (a ++ (b ∷ [])) s) (omega (arith, l.1, ap length l.0)) whole)
  where
    whole : r ≡ phase_of q (length a) (a ++ (b ∷ [])) s
    whole =
        er
        ∙ rw (ne_eqb q 0 (λ f. omega arith))
        (residue_cong h
        (cong_sub (cong_of_eq q (ap pos (sym (get_or-append_seam a b [] 0)))) (cong_trans (modulo_stands h _ es) (cong_of_eq q (inner_mask a b s)))))

-- nothing was lent
pub phase_none : (q : ℕ) (x : List ℕ) (s : ℕ → ℤ) → 0 < q → length x ≡ 0 → 0 ≡ phase_of q (length x - 1) x s
unfolding phase_of inner residue sum_to
phase_none q [] s h e = sym (mod-eq_of_lt {m = q} h)
phase_none q (y ∷ ys) s h e = absurd (omega (arith, e))
