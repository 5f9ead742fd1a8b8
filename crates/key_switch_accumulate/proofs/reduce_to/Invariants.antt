use mathlib.Core.List.{map}
use Prim.Native.Nat.{◌%◌}
use Rattle.scheme.proofs.InPlace.{Filled}
use Rattle.key_switch_accumulate.proofs.reduce_to.Given as goal

abbrev pub invariant-loop-k : goal.invariant-loop-k
invariant-loop-k l = Filled (map (λ x. x % l.q.q) l.acc) l.initial.out l.out l.k
