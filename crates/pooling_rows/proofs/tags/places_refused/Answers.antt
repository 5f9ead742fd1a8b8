use Rattle.std.proofs.Common.{arith}
use Rattle.pooling_rows.proofs.Laws.{place_next}
use Rattle.pooling_rows.proofs.tags.places_refused.Goals as goal

pub loop-i-preserved : goal.loop-i-preserved
loop-i-preserved c =
    place_next c.args.tags.now c.args.bytes.now c.loop-i.i _ _ _ _ (omega arith) c.tag_at.ensures c.tags_refused-any.ensures c.loop-i.invariant
