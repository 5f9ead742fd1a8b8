use Rattle.key_switch_explicit.proofs.Walking.{Walking}
use Rattle.key_switch_explicit.proofs.walk.Given as goal

abbrev pub invariant-loop-i : goal.invariant-loop-i
invariant-loop-i l = Walking l.tile.shape.basis l.tile.shape.n l.tile.shape.m l.tile.rows l.tile.input.now l.tile.key.now l.acc l.ceiling l.i
