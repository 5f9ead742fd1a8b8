use Rattle.scheme.specs.Lwe.{add_words}
use Rattle.scheme.proofs.InPlace.{Filled}
use Rattle.primus_reduce.specs.Ring.{size_of}
use Rattle.primus_lattice.proofs.single_message.add_words.Given as goal

abbrev pub invariant-loop-i : goal.invariant-loop-i
invariant-loop-i l = Filled (add_words (size_of l.modulus) l.initial.x l.y) l.initial.x l.x l.i
