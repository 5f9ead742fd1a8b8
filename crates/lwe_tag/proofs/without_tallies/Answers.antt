use native.Mathlib.Omega.{arith}
use Rattle.scheme.proofs.InPlace.{mapped_in_place}
use Rattle.lwe_tag.proofs.without_tallies.Goals as goal

pub loop-tag-preserved : goal.loop-tag-preserved
loop-tag-preserved c = mapped_in_place _ _ _ _ _ c.loop-tag.invariant _ (omega arith) c.without_tally.ensures
