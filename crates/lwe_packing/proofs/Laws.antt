-- Laws of packed ciphertexts: mask products, phases and bodies.
-- Assumes nothing.
use mathlib.Core.Path.{◌≡◌, ap, ap₂, ◌∙◌}
use mathlib.Core.List.{List}
use Prim.Native.Nat.{ℕ, ◌+◌, ◌-◌, ◌≤◌, ◌<◌}
use native.Mathlib.Omega.{arith}
use lib.Dec.{eqb}
use lib.IntN.{ℤ, pos, ◌+ℤ◌, ◌-ℤ◌, ◌*ℤ◌}
use lib.ListN.{length, get_or, take, drop, length-drop}
use lib.Seq.{get_or-take, get_or-drop, length-take-le}
use borrow.Author.Tests.{ne_eqb}
use Rattle.scheme.specs.Numbers.{pick, residue, sum_to}
use Rattle.scheme.specs.Lwe.{words, rotated, packed_phase}
use Rattle.scheme.proofs.Residue.{cong_refl, cong_add, residue_cong}
use Rattle.scheme.proofs.Sums.{sum_ext}
use Rattle.scheme.proofs.Lwe.{cong_sub}
use Rattle.primus_reduce.specs.Ring.{modulo}
use Rattle.primus_reduce.specs.Dot.{dot}
use Rattle.lwe_secret_key.proofs.Laws.{modulo_stands}

turned : (i j : ℕ) → i + j ≡ j + i
turned i j = omega arith

-- a part of the mask and a part of the key
dot_plain : (a s : List ℕ) (m i : ℕ) → m ≤ length a → dot (take m a) (drop i s) ≡ sum_to m (λ j. pos (get_or a j 0) *ℤ words s (j + i))
unfolding dot
dot_plain a s m i h =
    ap (λ z. sum_to z (λ j. pos (get_or (take m a) j 0) *ℤ pos (get_or (drop i s) j 0))) (length-take-le m a h)
    ∙ sum_ext m _ _ (λ j l. ap₂ (λ (x y : ℕ). pos x *ℤ pos y) (get_or-take m a j 0 l) (get_or-drop i s j 0 ∙ ap (λ z. get_or s z 0) (turned i j)))

dot_wrapped : (a s : List ℕ) (m i : ℕ) → length (drop m a) ≡ i → dot (drop m a) (take i s) ≡ sum_to i (λ k. pos (get_or a (m + k) 0) *ℤ words s k)
unfolding dot
dot_wrapped a s m i e =
    ap (λ z. sum_to z (λ j. pos (get_or (drop m a) j 0) *ℤ pos (get_or (take i s) j 0))) e
    ∙ sum_ext i _ _ (λ j l. ap₂ (λ (x y : ℕ). pos x *ℤ pos y) (get_or-drop m a j 0) (get_or-take i s j 0 l))

-- two products of parts, one taken from the other
pub rotated_is : (q i : ℕ) (mask key plain wrapped start rest : List ℕ) (x y : ℕ) {r : ℕ} → 0 < q → i < length mask
    → plain ≡ take (length mask - i) mask → wrapped ≡ drop (length mask - i) mask → start ≡ take i key → rest ≡ drop i key
    → x ≡ modulo q (dot plain rest) → y ≡ modulo q (dot wrapped start) → r ≡ modulo q (pos x -ℤ pos y) → r ≡ modulo q (rotated (length mask) mask (words key) i)
unfolding rotated
rotated_is q i mask key plain wrapped start rest x y h l pe we se re ex ey er =
    er
    ∙ ap (λ z. pick (eqb q 0) 0 z)
    (residue_cong h
    (cong_sub (modulo_stands h _ (ex ∙ ap (modulo q) (ap₂ dot pe re ∙ dot_plain mask key _ i (omega arith))))
    (modulo_stands h _ (ey ∙ ap (modulo q) (ap₂ dot we se ∙ dot_wrapped mask key (length mask - i) i (omega (arith, length-drop (length mask - i) mask)))))))

-- a ciphertext begins with its mask
rotated_mask : (n i : ℕ) (x : List ℕ) (s : ℕ → ℤ) → i < n → rotated n (take n x) s i ≡ rotated n x s i
unfolding rotated
rotated_mask n i x s h =
    ap₂ ◌-ℤ◌ (sum_ext (n - i) _ _ (λ j l. ap (λ (z : ℕ). pos z *ℤ s (j + i)) (get_or-take n x j 0 (omega arith))))
    (sum_ext i _ _ (λ k l. ap (λ (z : ℕ). pos z *ℤ s k) (get_or-take n x (n - i + k) 0 (omega arith))))

-- a phase, from the word that stands for the mask product
pub phase_is : (q b product : ℕ) (a : ℤ) {r : ℕ} → 0 < q → product ≡ modulo q a → r ≡ modulo q (pos b -ℤ pos product) → r ≡ residue (pos b -ℤ a) q
phase_is q b product a h ep er =
    er ∙ rw (ne_eqb q 0 (λ f. omega arith)) (residue_cong h (cong_sub (cong_refl q (pos b)) (modulo_stands h a ep)))

-- the phase of body i of a ciphertext, cut into its mask and its bodies
pub phase_of_input : (q n i : ℕ) (x mask bodies : List ℕ) (s : ℕ → ℤ) {r : ℕ} → i < n → length mask ≡ n
    → mask ≡ take n x → bodies ≡ drop n x
    → r ≡ residue (pos (get_or bodies i 0) -ℤ rotated (length mask) mask s i) q → r ≡ packed_phase q n x s i
unfolding packed_phase
phase_of_input q n i x mask bodies s l size me be er =
    er
    ∙ ap (λ z. residue z q)
    (ap₂ ◌-ℤ◌ (ap (λ xs. pos (get_or xs i 0)) be ∙ ap pos (get_or-drop n x i 0)) (ap₂ (λ (m : ℕ) (a : List ℕ). rotated m a s i) size me ∙ rotated_mask n i x s l))

-- body i, from the words that stand for its mask product and its error
pub body_is : (q z : ℕ) (a e : ℤ) (x w : ℕ) {r : ℕ} → 0 < q → x ≡ modulo q a → w ≡ modulo q e
    → r ≡ residue (pos x +ℤ pos w +ℤ pos z) q → r ≡ residue (a +ℤ e +ℤ pos z) q
body_is q z a e x w h ex ew er = er ∙ residue_cong h (cong_add (cong_add (modulo_stands h a ex) (modulo_stands h e ew)) (cong_refl q (pos z)))
