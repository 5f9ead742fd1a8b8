use Prim.Native.Nat.{◌%◌}
use native.Mathlib.Omega.{arith}
use Rattle.scheme.proofs.InPlace.{mapped_next}
use Rattle.key_switch_accumulate.proofs.reduce_to.Goals as goal

pub loop-k-preserved : goal.loop-k-preserved
loop-k-preserved c =
    mapped_next (λ x. x % c.args.q.q) _ _ _ _ c.loop-k.invariant _ (omega arith) c.reduce.ensures
