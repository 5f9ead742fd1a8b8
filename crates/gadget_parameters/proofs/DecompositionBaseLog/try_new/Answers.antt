use Rattle.check_order.proofs.Answers.{refused, handed_on}
use Rattle.gadget_parameters.proofs.DecompositionBaseLog.try_new.Goals as goal

pub returns-in_err-refusal : goal.returns-in_err-refusal
returns-in_err-refusal c = rw (handed_on _ c.from_residual.ensures.1) (refused _ _ _ c.in_err-refusal.ensures)
