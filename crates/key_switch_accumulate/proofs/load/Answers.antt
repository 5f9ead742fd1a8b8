use native.Mathlib.Omega.{arith}
use Rattle.scheme.proofs.InPlace.{filled_next}
use Rattle.key_switch_accumulate.proofs.load.Goals as goal

pub loop-k-preserved : goal.loop-k-preserved
loop-k-preserved c = filled_next _ _ _ _ c.loop-k.invariant _ (omega arith) c.from.ensures
