-- The loop over words.
-- Assumes nothing.
use Rattle.std.proofs.Common.{◌≡◌, ℕ, ◌+◌, ◌*◌, ◌^◌, ◌<◌, ◌≤◌, List, length, get_or, sym, ap, ◌∙◌, arith, pow_mono}
use native.Mathlib.Decide.{ℕ_discrete}
use Rattle.scheme.specs.Basis.{Basis}
use Rattle.scheme.specs.Digits.{digit, stored, runs_of}
use Rattle.scheme.proofs.Lists.{is_runs}
use Rattle.gadget_digits.specs.declared.SignedDecomposer.{SignedDecomposer}
use Rattle.gadget_digits.specs.Step.{decomposer_of}
use Rattle.gadget_digits.specs.Column.{step_digit, Column}
use Rattle.gadget_digits.proofs.Columns as D
use Rattle.gadget_constants.specs.declared.prepared.PreparedBasis.{PreparedBasis}
use Rattle.gadget_constants.specs.Prepared.{Ready, basis_in}

-- the digits by the constants of an accepted basis
pub step_digits : (p : PreparedBasis) → Ready p → (a j : ℕ) → j < p.level_count
    → step_digit (decomposer_of (basis_in p) a) j ≡ stored (basis_in p).modulus (digit (basis_in p) a j)
step_digits p r = D.step_digits (basis_in p) r.sound.accepted wide
  where
    wide : (basis_in p).modulus ≤ 2 ^ 32
    wide = omega (arith, r.sound.accepted.covered, pow_mono {i = (basis_in p).bits} {j = 32} r.sound.bits-within)

-- ---- all columns

-- the columns below i hold the digits of the words below i
pub record Written (b : Basis) (xs : List ℕ) (i : ℕ) (out : List ℕ) : Type 0 where
  pub sized : length out ≡ b.levels * length xs
  pub digits : (j k : ℕ) → j < b.levels → k < i → get_or out (j * length xs + k) 0 ≡ stored b.modulus (digit b (get_or xs k 0) j)

pub written_next : (p : PreparedBasis) → Ready p → (xs : List ℕ) (i : ℕ) (out out' : List ℕ) (d : SignedDecomposer) → i < length xs
    → d ≡ decomposer_of (basis_in p) (get_or xs i 0) → Column d p.level_count (length xs) i out out' → Written (basis_in p) xs i out → Written (basis_in p) xs (i + 1) out'
written_next p r xs i out out' d h e c w =
    record { sized = c.same_length ∙ w.sized; digits = λ j k l g. go j k l g (ℕ_discrete k i) }
  where
    go : (j k : ℕ) → j < p.level_count → k < i + 1 → Dec (k ≡ i)
        → get_or out' (j * length xs + k) 0 ≡ stored (basis_in p).modulus (digit (basis_in p) (get_or xs k 0) j)
    go j k l g (yes q) =
        ap (λ x. get_or out' (j * length xs + x) 0) q ∙ c.digits j l ∙ ap (λ x. step_digit x j) e ∙ step_digits p r (get_or xs i 0) j l
        ∙ ap (λ x. stored (basis_in p).modulus (digit (basis_in p) (get_or xs x 0) j)) (sym q)
    go j k l g (no q) = c.others j k (omega arith) q ∙ w.digits j k l (omega arith)

pub written_all : (b : Basis) (xs : List ℕ) (i : ℕ) (out : List ℕ) → length xs ≤ i → Written b xs i out → out ≡ runs_of b xs
written_all b xs i out h w = is_runs b xs out w.sized (λ j k l g. w.digits j k l (omega arith))
