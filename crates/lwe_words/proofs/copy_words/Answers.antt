use mathlib.Core.Path.{refl}
use native.Mathlib.Omega.{arith}
use Rattle.scheme.proofs.InPlace.{filled_next}
use Rattle.lwe_words.proofs.copy_words.Goals as goal

pub loop-k-preserved : goal.loop-k-preserved
loop-k-preserved c = filled_next _ _ _ _ c.loop-k.invariant _ (omega arith) refl
