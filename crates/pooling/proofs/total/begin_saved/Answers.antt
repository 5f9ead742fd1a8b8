use Rattle.check_order.proofs.Answers.{handed_on}
use Rattle.pooling.proofs.Untouched.{unbegun}
use Rattle.pooling.proofs.total.begin_saved.Goals as goal

pub returns-in_err-begin_refusal : goal.returns-in_err-begin_refusal
returns-in_err-begin_refusal c = rw (handed_on _ c.from_residual.ensures.1) (unbegun _ c.in_err-begin_refusal.ensures)
