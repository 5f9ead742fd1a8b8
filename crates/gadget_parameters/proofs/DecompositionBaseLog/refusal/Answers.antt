use Rattle.std.proofs.Common.{rules, refl}
use Rattle.scheme.specs.Checks.{first_in}
use Rattle.check_order.proofs.Answers.{only_size}
use Rattle.gadget_parameters.specs.Kinds.{base_log_rows}
use Rattle.gadget_parameters.proofs.DecompositionBaseLog.refusal.Goals as goal

pub returns : goal.returns
unfolding first_in
returns c = only_size (base_log_rows c.args.self.0) _ _ c.judge.ensures (search rules) refl
