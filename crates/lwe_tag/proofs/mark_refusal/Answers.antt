use Rattle.std.proofs.Common.{rules}
use Rattle.check_order.proofs.Answers.{first_size, first_value, handed_on}
use Rattle.lwe_tag.specs.Answers.{mark_rows}
use Rattle.lwe_tag.proofs.mark_refusal.Goals as goal

pub returns-in_err-judge : goal.returns-in_err-judge
returns-in_err-judge c =
    rw (handed_on _ c.from_residual.ensures.1) (first_size (mark_rows c.args.tag c.args.modulus c.args.t) _ _ c.in_err-judge.ensures (search rules))

pub returns : goal.returns
returns c =
    first_value (mark_rows c.args.tag c.args.modulus c.args.t) _ _ _ c.in_ok-judge.ensures (search rules) c.judge-2.ensures (search rules)
