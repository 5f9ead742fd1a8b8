-- The two ways through a call that writes ciphertexts, and what is known where it wrote.
-- Assumes nothing.
use Rattle.std.proofs.Common.{◌≡◌, sym, ℕ, List, Ok, Err}
use Rattle.scheme.specs.Checks.{Check, refusal, Writes}
use Rattle.scheme.proofs.Order as O
use Rattle.check_order.specs.declared.refusal.Refusal.{Refusal}
use Rattle.check_order.specs.Answer.{number_of}
use Rattle.check_order.proofs.Answers as A
use Rattle.lwe_tag.specs.declared.LweTag.{LweTag}
use Rattle.lwe_tag.specs.Answers.{WritesTagged}

module _ {rows : List Check} {tag : LweTag} {result before : List ℕ} where
  pub refused : {e : Refusal} → number_of e ≡ refusal rows → WritesTagged rows tag result before (Err e) before
  refused {e} h =
      let w : Writes rows result before (number_of e) before = A.unwritten e h in
      record { answered = A.refused rows tag e h; holds = w.holds }

  pub done : {g : LweTag} {after : List ℕ} → 0 ≡ refusal rows → g ≡ tag → after ≡ result
      → WritesTagged rows tag result before (Ok g) after
  done {g} h f w = record { answered = A.served rows g tag h f; holds = O.given _ _ _ _ (sym h) w }
