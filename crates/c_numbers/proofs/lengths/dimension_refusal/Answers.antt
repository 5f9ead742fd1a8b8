use Rattle.std.proofs.Common.{rules, refl}
use Rattle.scheme.specs.Checks.{first_in}
use Rattle.check_order.proofs.Answers.{only_size}
use Rattle.c_numbers.specs.Lengths.{dimension_rows}
use Rattle.c_numbers.proofs.lengths.dimension_refusal.Goals as goal

pub returns : goal.returns
unfolding first_in
returns c = only_size (dimension_rows c.args.n) _ _ c.judge.ensures (search rules) refl
