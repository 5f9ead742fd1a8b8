use Rattle.std.proofs.Common.{rules, refl}
use Rattle.scheme.specs.Checks.{first_in}
use Rattle.check_order.proofs.Answers.{only_size}
use Rattle.key_switch_parameters.specs.Answers.{parameter_rows}
use Rattle.c_numbers.proofs.lengths.switching_refusal.Goals as goal

pub returns : goal.returns
unfolding first_in
returns c = only_size (parameter_rows c.args.params) _ _ c.judge.ensures (search rules) refl
