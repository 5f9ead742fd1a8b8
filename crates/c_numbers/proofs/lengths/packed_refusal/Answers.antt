use Rattle.std.proofs.Common.{rules, refl}
use Rattle.scheme.specs.Checks.{first_in}
use Rattle.check_order.proofs.Answers.{only_size}
use Rattle.c_numbers.specs.Lengths.{packed_rows}
use Rattle.c_numbers.proofs.lengths.packed_refusal.Goals as goal

pub returns : goal.returns
unfolding first_in
returns c = only_size (packed_rows c.args.n c.args.count) _ _ c.judge.ensures (search rules) refl
