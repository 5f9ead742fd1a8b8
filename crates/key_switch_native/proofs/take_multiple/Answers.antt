use Rattle.std.proofs.Common.{arith, refl}
use Rattle.scheme.proofs.InPlace.{filled_start, filled_end, zipped_next, length_zip}
use Rattle.key_switch_native.proofs.Rows.{wrapped, less_wrapped}
use Rattle.key_switch_native.proofs.take_multiple.Goals as goal

pub loop-k-init : goal.loop-k-init
loop-k-init c = filled_start _ _ (length_zip _ _ _ c.requires)

pub loop-k-preserved : goal.loop-k-preserved
loop-k-preserved c =
    zipped_next (wrapped c.args.digit) _ _ _ _ c.requires c.loop-k.invariant _ (omega arith) refl

pub returns : goal.returns
returns c = less_wrapped c.args.digit _ _ c.requires _ (filled_end _ _ _ _ c.loop-k.invariant (omega arith))
