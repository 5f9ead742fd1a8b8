-- A refused call of either kind leaves the total as it was.
-- Assumes nothing.
use Rattle.std.proofs.Common.{◌≡◌, refl, ◌∙◌, ℕ, List, length}
use borrow.Author.Tests.{ne_eqb}
use Rattle.check_order.specs.declared.refusal.Refusal.{Refusal}
use Rattle.check_order.specs.Answer.{number_of}
use Rattle.check_order.proofs.Answers.{some_number}
use Rattle.lwe_tag.specs.declared.LweTag.{LweTag}
use Rattle.lwe_parameters.specs.declared.parameter.LweDecryptionParameters.{LweDecryptionParameters}
use Rattle.pooling_refusals.specs.Rows.{begin_refusal, total_refusal}
use Rattle.pooling.specs.Total.{BeginsSaved, AddsSaved}

module _ {p : LweDecryptionParameters} {s xs : List ℕ} {ts : List LweTag} (e : Refusal) where
  pub unadded : number_of e ≡ total_refusal p s xs ts → AddsSaved p s xs ts (number_of e) xs ts
  unadded h =
      let n = ne_eqb (total_refusal p s xs ts) 0 (λ z. some_number e (h ∙ z)) in
      record { answered = h; adds = rw n refl; tagged = rw n refl }

  pub unbegun : number_of e ≡ begin_refusal p s (length xs) (length ts) → BeginsSaved p s xs ts (number_of e) xs ts
  unbegun h =
      let n = ne_eqb (begin_refusal p s (length xs) (length ts)) 0 (λ z. some_number e (h ∙ z)) in
      record { answered = h; begins = rw n refl; tagged = rw n refl }
