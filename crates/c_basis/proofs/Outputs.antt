-- What the checks of an output leave.
-- Assumes nothing.
use Rattle.std.proofs.Common.{◌≡◌, refl, sym, ap, ◌∙◌, [], ◌∷◌, ℕ, Err, Ok}
use borrow.Author.Tests.{eq-eqb}
use Rattle.scheme.specs.Reading.{threshold}
use Rattle.scheme.specs.Checks.{refusal, row, length_fails, sizes, applies, first_in}
use Rattle.scheme.proofs.Checks.{length_ok}
use Rattle.scheme.proofs.Order.{passed, passed_part, only, early}
use Rattle.check_order.specs.declared.refusal.Refusal.{Refusal}
use Rattle.check_order.specs.Answer.{number_of, code_of}
use Rattle.check_order.proofs.Answers.{some_number, code_is, answered_ok}
use Rattle.gadget_constants.specs.declared.word.Reading.{Reading}
use Rattle.gadget_constants.specs.Word.{reading_of}
use Rattle.primus_decompose.specs.declared.primitive.basis.ApproxSignedBasis.{ApproxSignedBasis}
use Rattle.primus_decompose.specs.Answers.{basis, rows, word_rows, threshold_answer, reading_answer}
use Rattle.c_basis.specs.Bases.{output_rows, reading_rows}

module _ (b : ApproxSignedBasis) (room count : ℕ) (e : refusal (output_rows b room count) ≡ 0) where
  pub fits : room ≡ count
  fits = length_ok room count (passed (output_rows b room count) e 11 tt)

  basis-accepted : refusal (rows b) ≡ 0
  basis-accepted = passed_part (rows b) (row (length_fails room count) 11 ∷ []) e

  -- T is not refused, and is its own
  pub threshold_given : (r : Refusal) → Err r ≡ threshold_answer b → ⊥
  threshold_given r h = some_number r (ap code_of h ∙ code_is (rows b) (threshold (basis b)) ∙ basis-accepted)

pub threshold_is : (b : ApproxSignedBasis) (t : ℕ) → Ok t ≡ threshold_answer b → t ≡ threshold (basis b)
threshold_is b t h = (answered_ok (rows b) (threshold (basis b)) t h).1

-- with room for two, 14 is all that is left
module _ (b : ApproxSignedBasis) (a room : ℕ) (e : refusal (output_rows b room 2) ≡ 0) where
  roomy : refusal (reading_rows b a room) ≡ refusal (word_rows b a)
  unfolding refusal first_in
  roomy = rw (eq-eqb room 2 (fits b room 2 e))

  pub reading_refused : (r : Refusal) → Err r ≡ reading_answer b a → number_of r ≡ refusal (reading_rows b a room)
  reading_refused r h = ap code_of h ∙ code_is (word_rows b a) (reading_of (basis b) a) ∙ sym roomy

  pub reading_given : (x : Reading) → Ok x ≡ reading_answer b a → (refusal (reading_rows b a room) ≡ 0) × (x ≡ reading_of (basis b) a)
  reading_given x h = let g = answered_ok (word_rows b a) (reading_of (basis b) a) x h in (roomy ∙ g.0, g.1)

-- an output of another length refuses a reading too
pub reading_sized : (b : ApproxSignedBasis) (a room : ℕ) (r : Refusal) → number_of r ≡ refusal (output_rows b room 2) → number_of r ≡ refusal (reading_rows b a room)
unfolding first_in
reading_sized b a room r h =
    let first : first_in (applies (output_rows b room 2)) sizes ≡ refusal (output_rows b room 2) = only (output_rows b room 2) refl refl in
    early (reading_rows b a room) (h ∙ sym first) (some_number r)
