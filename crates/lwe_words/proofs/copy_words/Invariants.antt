use Rattle.scheme.proofs.InPlace.{Filled}
use Rattle.lwe_words.proofs.copy_words.Given as goal

abbrev pub invariant-loop-k : goal.invariant-loop-k
invariant-loop-k l = Filled l.words l.initial.out l.out l.k
