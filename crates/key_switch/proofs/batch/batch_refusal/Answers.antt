use Rattle.std.proofs.Common.{rules}
use Rattle.check_order.proofs.Answers.{first_size, first_value, handed_on}
use Rattle.key_switch.proofs.batch.batch_refusal.Goals as goal

pub returns-in_err-judge : goal.returns-in_err-judge
returns-in_err-judge c = rw (handed_on _ c.from_residual.ensures.1) (first_size _ _ _ c.in_err-judge.ensures (search rules))

pub returns : goal.returns
returns c = first_value _ _ _ _ c.in_ok-judge.ensures (search rules) c.judge-2.ensures (search rules)
