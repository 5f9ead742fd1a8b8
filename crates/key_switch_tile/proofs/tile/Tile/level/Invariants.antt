use Rattle.std.proofs.Common.{◌+◌, map}
use Rattle.key_switch_tile.proofs.Levels.{Rowing}
use Rattle.key_switch_tile.proofs.tile.Tile.level.Given as goal

abbrev pub invariant-loop-t : goal.invariant-loop-t
invariant-loop-t g l =
    Rowing (g.K.Kernel.ring l.kernel) (g.K.Kernel.growth l.kernel) (l.self.shape.m + 1) l.self.rows l.entry l.initial.lanes (map g.K.Kernel.number l.initial.acc) l.lanes (map g.K.Kernel.number l.acc) l.t
