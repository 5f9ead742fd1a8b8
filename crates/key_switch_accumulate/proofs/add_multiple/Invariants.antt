use mathlib.Core.List.{zip_with}
use Prim.Native.Nat.{◌+◌, ◌*◌}
use Rattle.scheme.proofs.InPlace.{Filled}
use denote.Param.{number}
use Rattle.key_switch_accumulate.specs.contracts.add_multiple.{OPPOSITE-type}
use Rattle.key_switch_accumulate.specs.Rows.{addend_of}
use Rattle.key_switch_accumulate.proofs.add_multiple.Given as goal

abbrev pub invariant-loop-k : goal.invariant-loop-k
invariant-loop-k g l = Filled (zip_with (λ x y. x + l.a * addend_of (OPPOSITE-type (number g.row.OPPOSITE)) l.q y) l.initial.acc l.entry) l.initial.acc l.acc l.k
