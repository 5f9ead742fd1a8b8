use Rattle.std.proofs.Common.{◌+◌, ◌*◌, map}
use Rattle.key_switch_tile.proofs.Places.{Sinking}
use Rattle.key_switch_tile.proofs.tile.Tile.place.Given as goal

abbrev pub invariant-loop-j : goal.invariant-loop-j
invariant-loop-j g l =
    Sinking (g.K.Kernel.ring l.kernel) (g.K.Kernel.growth l.kernel) (l.fn.self.shape.m + 1) l.self.rows l.fn.self.shape.basis.level_count (l.i * (l.fn.self.shape.basis.level_count * (l.fn.self.shape.m + 1))) l.self.key.now l.initial.lanes
    (map g.K.Kernel.number l.initial.acc) l.lanes (map g.K.Kernel.number l.acc) l.j
