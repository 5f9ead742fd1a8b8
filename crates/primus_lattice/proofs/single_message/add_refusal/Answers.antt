use Rattle.std.proofs.Common.{rules}
use Rattle.check_order.proofs.Answers.{first_size, first_value, handed_on}
use Rattle.primus_lattice.specs.Answers.{add_rows}
use Rattle.primus_lattice.proofs.single_message.add_refusal.Goals as goal

pub returns-in_err-judge : goal.returns-in_err-judge
returns-in_err-judge c =
    rw (handed_on _ c.from_residual.ensures.1)
    (first_size (add_rows c.args.modulus c.args.dimension.0 c.args.x.now c.args.x_tag c.args.y.now c.args.y_tag) _ _ c.in_err-judge.ensures (search rules))

pub returns : goal.returns
returns c =
    first_value (add_rows c.args.modulus c.args.dimension.0 c.args.x.now c.args.x_tag c.args.y.now c.args.y_tag) _ _ _ c.in_ok-judge.ensures (search rules) c.judge-2.ensures (search rules)
