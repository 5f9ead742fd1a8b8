use Rattle.std.proofs.Common.{rules, refl}
use Rattle.scheme.specs.Checks.{first_in}
use Rattle.check_order.proofs.Answers.{only_size}
use Rattle.c_basis.specs.Bases.{output_rows}
use Rattle.c_basis.proofs.basis.sizes_refusal.Goals as goal

pub returns : goal.returns
unfolding first_in
returns c = only_size (output_rows c.args.basis c.args.room c.args.count) _ _ c.judge.ensures (search rules) refl
