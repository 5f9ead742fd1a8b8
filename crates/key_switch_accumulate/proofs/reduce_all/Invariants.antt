use mathlib.Core.List.{map}
use Prim.Native.Nat.{◌%◌}
use Rattle.scheme.proofs.InPlace.{Filled}
use Rattle.key_switch_accumulate.proofs.reduce_all.Given as goal

abbrev pub invariant-loop-x : goal.invariant-loop-x
invariant-loop-x l = Filled (map (λ x. x % l.q.q) l.initial.acc) l.initial.acc l.acc l.x-index
