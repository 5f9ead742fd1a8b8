-- What refusals leave, and how they make answers.
-- Assumes nothing.
use mathlib.Core.Path.{◌≡◌, refl, sym, ap, ap₂, subst, ◌∙◌}
use mathlib.Core.Bool.{Bool, true, false, not, ◌&&◌}
use mathlib.Core.List.{List, [], ◌∷◌, ◌++◌}
use Prim.Native.Nat.{ℕ, ◌+◌, ◌*◌, ◌<◌}
use native.Mathlib.Nat.{mul-one, zero-add}
use native.Mathlib.Omega.{arith}
use lib.ListN.{length, get_or}
use lib.Dec.{ltb, leb}
use borrow.Author.Tests.{lt-leb, le-leb, ltb-true, ltb-false}
use Rattle.scheme.specs.Checks.{row, refusal, all_of, length_fails, words_fail, Writes}
use Rattle.scheme.proofs.Checks.{length_ok, word_ok, words_ok}
use Rattle.scheme.proofs.Order.{passed, passed_part, writes_by}
use Rattle.scheme.proofs.Lists.{is_tabulate, length_runs, get_or_runs}
use Rattle.scheme.specs.Digits.{digit, stored, digits_of, runs_of}
use Rattle.primus_reduce.specs.Ring.{size_of}
use Rattle.gadget_constants.specs.declared.prepared.PreparedBasis.{PreparedBasis}
use Rattle.gadget_constants.specs.Prepared.{Ready}
use Rattle.gadget_constants.specs.Word.{Words}
use Rattle.primus_decompose.specs.declared.primitive.basis.ApproxSignedBasis.{ApproxSignedBasis}
use Rattle.primus_decompose.specs.Answers.{basis, rows, prepared_by, word_rows, digit_rows, Decomposes, slice_rows, DecomposesSlice, count_rows}

-- ---- what a passed refusal leaves

-- what a call on one word may go on with: a basis that is ready, and a word below q
pub record Passed (b : ApproxSignedBasis) (a : ℕ) : Type 0 where
  pub judged : refusal (rows b) ≡ 0
  pub ready : {p : PreparedBasis} → Ready p × (p ≡ prepared_by b) → Ready p × (a < size_of p.modulus)

pub passes : (b : ApproxSignedBasis) (a : ℕ) → 0 ≡ refusal (word_rows b a) → Passed b a
passes b a e =
    let n = sym e in
    record {
      judged = passed_part (rows b) _ n;
      ready = λ h. (h.0, rw h.1 (word_ok (size_of b.modulus) a (passed (word_rows b a) n 14 tt)));
    }

-- what the slice call may go on with
pub record Decomposable (b : ApproxSignedBasis) (xs : List ℕ) (room : ℕ) : Type 0 where
  pub judged : refusal (rows b) ≡ 0
  pub sized : room ≡ b.level_count.0 * length xs
  pub below : Words (size_of b.modulus) xs

pub decomposable : {b : ApproxSignedBasis} {xs : List ℕ} {room : ℕ} → 0 ≡ refusal (slice_rows b xs room) → Decomposable b xs room
decomposable {b} {xs} {room} e =
    let n = sym e in
    let no = passed (slice_rows b xs room) n in
    record {
      judged = passed_part (rows b) _ n;
      sized = length_ok room (b.level_count.0 * length xs) (no 11 tt);
      below = words_ok (size_of b.modulus) xs (no 14 tt);
    }

-- what the call that counts may go on with
pub record Countable (b : ApproxSignedBasis) (room : ℕ) : Type 0 where
  pub judged : refusal (rows b) ≡ 0
  pub sized : room ≡ b.level_count.0 + 1

pub countable : (b : ApproxSignedBasis) (room : ℕ) → 0 ≡ refusal (count_rows b room) → Countable b room
countable b room e =
    let n = sym e in
    record {
      judged = passed_part (rows b) _ n;
      sized = length_ok room (b.level_count.0 + 1) (passed (count_rows b room) n 11 tt);
    }

-- one word is a slice of one
module _ (b : ApproxSignedBasis) (a : ℕ) where
  below-is : (q : ℕ) → not (ltb a q && true) ≡ leb q a
  below-is q = go (ltb a q) refl
    where
      go : (x : Bool) → ltb a q ≡ x → not (x && true) ≡ leb q a
      go true e = sym (lt-leb q a (ltb-true a q e))
      go false e = sym (le-leb q a (ltb-false a q e))

  one_rows : (room : ℕ) → slice_rows b (a ∷ []) room ≡ digit_rows b a room
  unfolding words_fail all_of
  one_rows room =
      ap₂ (λ n f. rows b ++ row (length_fails room n) 11 ∷ row f 14 ∷ []) (mul-one b.level_count.0) (below-is (size_of b.modulus))

  one_run : runs_of (basis b) (a ∷ []) ≡ digits_of (basis b) a
  one_run =
      is_tabulate (basis b).levels _ (runs_of (basis b) (a ∷ []))
      (length_runs (basis b) (a ∷ []) 0 (basis b).levels ∙ mul-one (basis b).levels)
      (λ j h. ap (λ n. get_or (runs_of (basis b) (a ∷ [])) n 0) (plain j) ∙ get_or_runs (basis b) (a ∷ []) 0 (basis b).levels j 0 h (omega arith)
      ∙ ap (λ n. stored (basis b).modulus (digit (basis b) a n)) (zero-add j))
    where
      plain : (j : ℕ) → j ≡ j * 1 + 0
      plain j = omega arith

  pub one_word : {before after : List ℕ} {r : ℕ} → DecomposesSlice b (a ∷ []) before r after → Decomposes b a before r after
  one_word {before} {after} {r} d =
      record { writes = subst (λ rs. Writes rs (digits_of (basis b) a) before r after) (one_rows (length before)) (writes_by (λ z. one_run) d.writes) }
