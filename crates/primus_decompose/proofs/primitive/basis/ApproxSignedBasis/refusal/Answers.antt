use Rattle.std.proofs.Common.{refl}
use Rattle.scheme.specs.Checks.{first_in}
use Rattle.check_order.proofs.Answers.{only_size}
use Rattle.primus_decompose.proofs.primitive.basis.ApproxSignedBasis.refusal.Goals as goal

pub returns : goal.returns
unfolding first_in
returns c = only_size _ _ _ c.judge.ensures c.sizes-s.ensures refl
