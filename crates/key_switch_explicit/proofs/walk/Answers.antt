use mathlib.Core.Path.{ap}
use native.Mathlib.Omega.{arith}
use Rattle.primus_reduce.specs.Ring.{size_of}
use Rattle.key_switch_tile.proofs.Walks.{levels-least}
use Rattle.key_switch_explicit.proofs.Walking.{costs_of, cost_small, room_asks, walking_start, kept_reached, walk_fits, walking_on}
use Rattle.key_switch_explicit.proofs.walk.Goals as goal

pub cost_of-cost-requires : goal.cost_of-cost-requires
cost_of-cost-requires c =
    (levels-least c.args.tile.shaped, omega (arith, cost_small c.args.tile.shaped _ _ (ap size_of c.requires.0) c.half_of-half.ensures))

pub loop-i-init : goal.loop-i-init
loop-i-init c =
    let k = costs_of c.args.tile.shaped (ap size_of c.requires.0) c.half_of-half.ensures c.cost_of-cost.ensures in
    walking_start c.args.tile.shaped k c.requires.1 c.from-ceiling.ensures

pub keep_room-ceiling-requires : goal.keep_room-ceiling-requires
keep_room-ceiling-requires c = room_asks c.args.tile.shaped (costs_of c.args.tile.shaped (ap size_of c.requires.0) c.half_of-half.ensures c.cost_of-cost.ensures)

pub place-requires : goal.place-requires
place-requires c =
    let k = costs_of c.args.tile.shaped (ap size_of c.requires.0) c.half_of-half.ensures c.cost_of-cost.ensures in (
      c.loop-i-test.true,
      c.lanes-lanes.ensures,
      kept_reached c.args.tile.shaped k c.loop-i.invariant c.loop-i-test.true c.keep_room-ceiling.ensures,
      walk_fits c.args.tile.shaped k c.loop-i.invariant c.loop-i-test.true c.keep_room-ceiling.ensures,
    )

pub loop-i-preserved : goal.loop-i-preserved
loop-i-preserved c =
    let k = costs_of c.args.tile.shaped (ap size_of c.requires.0) c.half_of-half.ensures c.cost_of-cost.ensures in
    walking_on c.args.tile.shaped k c.loop-i.invariant c.loop-i-test.true c.keep_room-ceiling.ensures c.place.ensures
