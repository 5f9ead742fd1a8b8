use Rattle.std.proofs.Common.{arith}
use Rattle.key_switch_tile.proofs.Lanes.{starting_start, starting_on, row_wide}
use Rattle.key_switch_tile.proofs.tile.Tile.start.Goals as goal

pub loop-t-init : goal.loop-t-init
loop-t-init c = starting_start _ _ _ _ _ c.requires

pub start_row-requires : goal.start_row-requires
start_row-requires c = omega (arith, row_wide _ _ _ _ _ _ _ c.loop-t.invariant c.loop-t-test.true)

pub loop-t-preserved : goal.loop-t-preserved
loop-t-preserved c =
    starting_on _ _ _ _ _ _ _ c.loop-t.invariant c.loop-t-test.true (row_wide _ _ _ _ _ _ _ c.loop-t.invariant c.loop-t-test.true) c.start_row.ensures
