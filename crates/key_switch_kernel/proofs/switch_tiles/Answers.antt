use Rattle.std.proofs.Common.{ℕ}
use Rattle.std.proofs.lemmas.List.{length-replicate}
use Rattle.key_switch_kernel.proofs.Batches.{accumulators, batching_start, batching_end, insides, tile_asks, acc_back, batching_on, all_done}
use Rattle.key_switch_kernel.proofs.switch_tiles.Goals as goal

pub loop-u-init : goal.loop-u-init
loop-u-init c = batching_start _ _ _ _ _ _ _ c.requires.1 (length-replicate {A = ℕ} accumulators 0)

pub slice_bounds-switch_tile-end-in-loop-u : goal.slice_bounds-switch_tile-end-in-loop-u
slice_bounds-switch_tile-end-in-loop-u c = (insides c.requires.0 c.div_ceil-u-end.ensures c.loop-u-test.true c.loop-u.invariant c.min-rows.ensures).0

pub slice_bounds-tile-end : goal.slice_bounds-tile-end
slice_bounds-tile-end c = (insides c.requires.0 c.div_ceil-u-end.ensures c.loop-u-test.true c.loop-u.invariant c.min-rows.ensures).1

pub switch_tile-requires : goal.switch_tile-requires
switch_tile-requires c = tile_asks c.requires.0 c.div_ceil-u-end.ensures c.loop-u-test.true c.loop-u.invariant c.min-rows.ensures _ c.loop-u.invariant.roomy

pub loop-u-preserved : goal.loop-u-preserved
loop-u-preserved c =
    batching_on c.requires.0 c.div_ceil-u-end.ensures c.loop-u-test.true c.loop-u.invariant c.min-rows.ensures c.switch_tile.ensures
    (acc_back c.loop-u.acc c.switch_tile.new.acc _ c.loop-u.invariant.roomy c.switch_tile.auto.acc)

pub returns : goal.returns
returns c = batching_end c.loop-u.invariant (all_done c.div_ceil-u-end.ensures c.loop-u-test.false)
