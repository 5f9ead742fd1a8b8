use Rattle.check_order.proofs.Answers.{refused, handed_on}
use Rattle.c_numbers.proofs.lengths.ciphertext_words.Goals as goal

pub returns-in_err-dimension_refusal : goal.returns-in_err-dimension_refusal
returns-in_err-dimension_refusal c = rw (handed_on _ c.from_residual.ensures.1) (refused _ _ _ c.in_err-dimension_refusal.ensures)
