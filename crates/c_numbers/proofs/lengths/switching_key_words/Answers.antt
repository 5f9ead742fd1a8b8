use Rattle.check_order.proofs.Answers.{refused, handed_on}
use Rattle.c_numbers.proofs.lengths.switching_key_words.Goals as goal

pub returns-in_err-switching_refusal : goal.returns-in_err-switching_refusal
returns-in_err-switching_refusal c = rw (handed_on _ c.from_residual.ensures.1) (refused _ _ _ c.in_err-switching_refusal.ensures)
