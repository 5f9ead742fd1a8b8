use Rattle.std.proofs.Common.{◌*◌, min, length}
use Rattle.key_switch_tile.specs.Tile.{tile}
use Rattle.key_switch_kernel.proofs.Batches.{Batching}
use Rattle.key_switch_kernel.proofs.switch_tiles.Given as goal

abbrev pub invariant-loop-u : goal.invariant-loop-u
invariant-loop-u l = Batching l.shape.basis l.shape.n l.shape.m l.count l.input l.key l.initial.out l.out (length l.acc) (min (l.u * tile) l.count)
