use Rattle.check_order.proofs.Answers.{handed_on}
use Rattle.saved_head.specs.Head.{head_of}
use Rattle.pooling_refusals.specs.Rows.{total_rows}
use Rattle.pooling_refusals.proofs.Laws.{foreign_is, own_is}
use Rattle.pooling_refusals.proofs.total.total_refusal.Goals as goal

pub returns-in_err-h : goal.returns-in_err-h
returns-in_err-h c =
    rw (handed_on _ c.from_residual.ensures.1)
    (foreign_is (λ h. total_rows c.args.params h c.args.bytes.now c.args.total.now c.args.tags.now) (head_of c.args.bytes.now) c.in_err-h.ensures.0 c.in_err-h.ensures.1)

pub returns : goal.returns
returns c =
    own_is (λ h. total_rows c.args.params h c.args.bytes.now c.args.total.now c.args.tags.now) (head_of c.args.bytes.now) c.in_ok-h.ensures.0 c.in_ok-h.ensures.1 c.judged.ensures
