use Rattle.std.proofs.Common.{◌∙◌}
use Rattle.std.proofs.lemmas.List.{length-map}
use Rattle.key_switch_tile.proofs.Levels.{number_part, number_new, rowing_start, row_asks, rowing_on}
use Rattle.key_switch_tile.proofs.tile.Tile.level.Goals as goal

pub loop-t-init : goal.loop-t-init
loop-t-init g c =
    rowing_start _ _ (record { few = c.args.self.few; count = c.told-lanes; wide = c.requires.0; sized = length-map _ _ ∙ c.requires.1 })

pub take_away-requires : goal.take_away-requires
take_away-requires g c =
    rw number_part (row_asks c.loop-t.invariant c.loop-t-test.true c.step-step.ensures c.requires.2)

pub loop-t-preserved : goal.loop-t-preserved
loop-t-preserved g c =
    rw number_new (rowing_on c.loop-t.invariant c.loop-t-test.true c.step-step.ensures (rw number_part at c.take_away.ensures))
