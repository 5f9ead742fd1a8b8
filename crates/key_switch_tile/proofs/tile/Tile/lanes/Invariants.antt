use Rattle.key_switch_tile.proofs.Lanes.{Opening}
use Rattle.key_switch_tile.proofs.tile.Tile.lanes.Given as goal

abbrev pub invariant-loop-t : goal.invariant-loop-t
invariant-loop-t l = Opening l.self.shape.basis l.self.shape.n l.self.rows l.i l.self.input.now l.lanes l.t
