use Rattle.std.proofs.Common.{◌≡◌}
use Rattle.gadget_constants.specs.Prepared.{basis_in}
use Rattle.gadget_constants.proofs.Columns.{Written}
use Rattle.gadget_constants.proofs.word.write_columns.Given as goal

abbrev pub invariant-loop-i : goal.invariant-loop-i
invariant-loop-i l = (l.levels ≡ l.p.level_count) × Written (basis_in l.p) l.values l.i l.out
