use Rattle.scheme.proofs.InPlace.{Filled}
use Rattle.key_switch_accumulate.proofs.load.Given as goal

abbrev pub invariant-loop-k : goal.invariant-loop-k
invariant-loop-k l = Filled l.words l.initial.acc l.acc l.k
