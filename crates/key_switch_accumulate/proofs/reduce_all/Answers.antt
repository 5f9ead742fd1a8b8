use Prim.Native.Nat.{◌%◌}
use native.Mathlib.Omega.{arith}
use mathlib.Core.Path.{◌∙◌}
use Rattle.scheme.proofs.InPlace.{mapped_next_in_place}
use Rattle.key_switch_accumulate.proofs.reduce_all.Goals as goal

pub loop-x-preserved : goal.loop-x-preserved
loop-x-preserved c =
    mapped_next_in_place (λ x. x % c.args.q.q) _ _ _ c.loop-x.invariant _ (omega arith) (c.from.ensures ∙ c.reduce.ensures)
