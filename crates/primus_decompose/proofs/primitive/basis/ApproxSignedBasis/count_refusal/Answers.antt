use Rattle.std.proofs.Common.{refl, rules}
use Rattle.scheme.specs.Checks.{first_in}
use Rattle.check_order.proofs.Answers.{only_size}
use Rattle.primus_decompose.specs.Answers.{count_rows}
use Rattle.primus_decompose.proofs.primitive.basis.ApproxSignedBasis.count_refusal.Goals as goal

pub returns : goal.returns
unfolding first_in
returns c = only_size (count_rows c.args.self c.args.room) _ _ c.judge.ensures (search rules) refl
