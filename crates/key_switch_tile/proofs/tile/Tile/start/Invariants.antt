use Rattle.key_switch_tile.proofs.Lanes.{Starting}
use Rattle.key_switch_tile.proofs.tile.Tile.start.Given as goal

abbrev pub invariant-loop-t : goal.invariant-loop-t
invariant-loop-t l = Starting l.self.shape.n l.self.shape.m l.self.rows l.self.input.now l.initial.out l.out l.t
