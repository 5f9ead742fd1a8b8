-- Errors that are words: their residues, and a scan of what they count as.
-- Assumes nothing.
use Rattle.std.proofs.Common.{◌≡◌, refl, sym, ap, ◌∙◌, Bool, ◌||◌, List, [], ◌∷◌, map, ℕ, zero, suc, ◌≤◌, ℤ, length, take, nat_le}
use Rattle.std.specs.List.{list_any}
use native.Mathlib.Omega.{arith}
use lib.IntN.{nat_abs}
use lib.ListN.{length-map}
use lib.Seq.{take_all}
use borrow.Author.Tests.{ne_eqb}
use Rattle.scheme.specs.Numbers.{nearest}
use Rattle.scheme.specs.Lwe.{words, signed, ErrorWords, error_values}
use Rattle.scheme.specs.Checks.{magnitudes_fail}
use Rattle.scheme.proofs.Nearest.{error_residue}
use Rattle.primus_reduce.specs.Ring.{modulo}
use Rattle.checks.proofs.Laws.{magnitudes_any}

-- the residue of a word is that of what it counts as
pub residue_is : (q : ℕ) (ws : List ℕ) (i : ℕ) → modulo q (words ws i) ≡ modulo q (signed (error_values q (ErrorWords ws)) i)
residue_is zero ws i = refl
residue_is (suc p) ws i = rw (ne_eqb (suc p) 0 (λ e. omega (arith, e))) (error_residue (suc p) (omega arith) ws i)

any_map : {A B : Type 0} (f : B → Bool) (g : A → B) (xs : List A) → list_any (λ x. f (g x)) xs ≡ list_any f (map g xs)
any_map f g [] = refl
any_map f g (x ∷ xs) = ap (λ b. f (g x) || b) (any_map f g xs)

-- what a whole scan finds
pub values_any : (q limit : ℕ) (ws : List ℕ) (i : ℕ) → length ws ≤ i
    → list_any (λ w. nat_le limit (nat_abs (nearest q w))) (take i ws) ≡ magnitudes_fail limit (map (nearest q) ws)
values_any q limit ws i h =
    ap (list_any (λ w. far (nearest q w))) (take_all i ws h)
    ∙ any_map far (nearest q) ws
    ∙ ap (list_any far) (sym (take_all i (map (nearest q) ws) whole))
    ∙ magnitudes_any limit (map (nearest q) ws) i whole
  where
    far : ℤ → Bool
    far c = nat_le limit (nat_abs c)

    whole : length (map (nearest q) ws) ≤ i
    whole = omega (arith, length-map ws (nearest q), h)
