use mathlib.Core.List.{zip_with}
use Rattle.scheme.proofs.InPlace.{Filled}
use Rattle.key_switch_native.proofs.Rows.{wrapped}
use Rattle.key_switch_native.proofs.take_multiple.Given as goal

abbrev pub invariant-loop-k : goal.invariant-loop-k
invariant-loop-k l = Filled (zip_with (wrapped l.digit) l.initial.row l.entry) l.initial.row l.row l.k
