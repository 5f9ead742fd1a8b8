use Rattle.std.proofs.Common.{arith}
use Rattle.scheme.proofs.InPlace.{filled_end}
use Rattle.pooling.proofs.Places.{turns-start, turn_ready, turn_next, turns_end}
use Rattle.pooling.proofs.rows.add_rows.Goals as goal

pub loop-i-init : goal.loop-i-init
loop-i-init c = turns-start c.args.params c.args.bytes.now c.args.total.now c.args.tags.now c.requires

pub add_row-requires : goal.add_row-requires
add_row-requires c =
    turn_ready c.args.params c.args.bytes.now c.args.total.now c.args.tags.now c.requires c.loop-i.total c.loop-i.tags c.loop-i.i c.loop-i.invariant
    (omega arith) _

pub loop-i-preserved : goal.loop-i-preserved
loop-i-preserved c =
    turn_next c.args.params c.args.bytes.now c.args.total.now c.args.tags.now c.requires c.loop-i.total c.loop-i.tags c.loop-i.i c.loop-i.invariant
    (omega arith) _ _ _ c.add_row.ensures.0 c.add_row.ensures.1

pub returns : goal.returns
returns c = (
  turns_end c.args.params c.args.bytes.now c.args.total.now c.args.tags.now c.requires c.loop-i.total c.loop-i.tags c.loop-i.i c.loop-i.invariant (omega arith),
  filled_end _ _ _ _ c.loop-i.invariant.1 (omega arith),
)
