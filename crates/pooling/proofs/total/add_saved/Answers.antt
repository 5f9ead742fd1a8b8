use Rattle.check_order.proofs.Answers.{handed_on}
use Rattle.pooling.proofs.Untouched.{unadded}
use Rattle.pooling.proofs.total.add_saved.Goals as goal

pub returns-in_err-total_refusal : goal.returns-in_err-total_refusal
returns-in_err-total_refusal c = rw (handed_on _ c.from_residual.ensures.1) (unadded _ c.in_err-total_refusal.ensures)
