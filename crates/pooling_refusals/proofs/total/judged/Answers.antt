use Rattle.std.proofs.Common.{rules}
use Rattle.check_order.proofs.Answers.{first_size, first_value, handed_on}
use Rattle.pooling_refusals.proofs.Laws.{total_sized}
use Rattle.pooling_refusals.proofs.total.judged.Goals as goal

pub returns-in_err-judge : goal.returns-in_err-judge
returns-in_err-judge c =
    rw (handed_on _ c.from_residual.ensures.1)
    (first_size _ _ _ c.in_err-judge.ensures (total_sized c.args.params c.args.h c.args.bytes.now _ c.args.total.now c.args.tags.now c.sizes.ensures))

pub returns : goal.returns
returns c =
    first_value _ _ _ _ c.in_ok-judge.ensures (total_sized c.args.params c.args.h c.args.bytes.now _ c.args.total.now c.args.tags.now c.sizes.ensures) c.judge-2.ensures (search rules)
