-- The laws of the factors of a sum: words, and signed numbers by their words.
use Rattle.std.specs.Prelude.{◌≡◌, ◌==◌, ℕ, zero, suc, ◌<◌, Bool, true, false, List, [], ◌∷◌, map, length, ℤ, pos, ◌*ℤ◌, slice_index, slice_index_or, refl}
use Rattle.std.proofs.Common.{sym, ap, subst}
use native.Mathlib.Nat.{zero-mod, zero-lt-suc}
use borrow.Author.Tests.{eqb-false}
use Rattle.scheme.specs.Numbers.{pick, residue, Cong}
use Rattle.scheme.proofs.Residue.{residue_cong, cong_sym, cong_residue, cong_mul-left}
use Rattle.scheme.proofs.Sums.{sum_cong}
use Rattle.primus_reduce.specs.Ring.{modulo}
use Rattle.primus_reduce.specs.Dot.{dot, dot_signed}

map_same : (xs : List ℕ) → map (λ x. x) xs ≡ xs
map_same [] = refl
map_same (x ∷ xs) = ap (λ l. x ∷ l) (map_same xs)

pub words_of_words : (q : ℕ) (xs ys : List ℕ) → modulo q (dot xs (map (λ x. x) ys)) ≡ modulo q (dot xs ys)
words_of_words q xs ys = ap (λ l. modulo q (dot xs l)) (map_same ys)

nothing : (q : ℕ) → residue (pos 0) q ≡ 0
unfolding residue
nothing q = zero-mod q

-- past the end both give 0
word_at : (q : ℕ) (cs : List ℤ) (i : ℕ) → slice_index (map (λ c. residue c q) cs) i ≡ residue (slice_index_or cs i (pos 0)) q
word_at q [] i = sym (nothing q)
word_at q (c ∷ cs) zero = refl
word_at q (c ∷ cs) (suc i) = word_at q cs i

positive : (q : ℕ) → (q == 0) ≡ false → 0 < q
positive zero e = absurd (eqb-false 0 0 e refl)
positive (suc p) e = zero-lt-suc p

-- b: whether q is 0
by_residues : (q : ℕ) (b : Bool) → (b ≡ false → 0 < q) → (xs : List ℕ) (cs : List ℤ)
    → pick b 0 (residue (dot xs (map (λ c. pick b 0 (residue c q)) cs)) q) ≡ pick b 0 (residue (dot_signed xs cs) q)
unfolding dot dot_signed
by_residues q true p xs cs = refl
by_residues q false p xs cs =
    residue_cong (p refl)
    (sum_cong q (length xs) _ _ (λ i l.
    let c = slice_index_or cs i (pos 0) in
    subst (λ w. Cong q (pos (slice_index xs i) *ℤ pos w) (pos (slice_index xs i) *ℤ c)) (sym (word_at q cs i))
    (cong_mul-left (pos (slice_index xs i)) (cong_sym (cong_residue q (p refl) c)))))

pub words_of_signed : (q : ℕ) (xs : List ℕ) (cs : List ℤ) → modulo q (dot xs (map (modulo q) cs)) ≡ modulo q (dot_signed xs cs)
words_of_signed q xs cs = by_residues q (q == 0) (positive q) xs cs
