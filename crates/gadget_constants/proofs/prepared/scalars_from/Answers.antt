use Rattle.std.proofs.Common.{arith}
use Rattle.scheme.proofs.Lists.{is_tabulate}
use Rattle.gadget_constants.specs.Prepared.{scalar_at}
use Rattle.gadget_constants.proofs.prepared.scalars_from.Goals as goal

pub returns : goal.returns
returns c =
    is_tabulate 16 (scalar_at c.args.d c.args.log c.args.levels) c.loop-j.weight-items c.loop-j.invariant.0 (λ i h. c.loop-j.invariant.1 i (omega arith))
