use native.Mathlib.Omega.{arith}
use Rattle.scheme.proofs.InPlace.{mapped_next_in_place}
use Rattle.codec_words.proofs.moduli.Moduli.decode_each.Goals as goal

pub loop-word-preserved : goal.loop-word-preserved
loop-word-preserved c = mapped_next_in_place _ _ _ _ c.loop-word.invariant _ (omega arith) c.decode.ensures
