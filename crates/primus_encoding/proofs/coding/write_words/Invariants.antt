use Rattle.scheme.proofs.InPlace.{Filled}
use Rattle.primus_encoding.specs.Coding.{coded}
use Rattle.primus_encoding.proofs.coding.write_words.Given as goal

abbrev pub invariant-loop-i : goal.invariant-loop-i
invariant-loop-i l =
    Filled (coded l.coding l.moduli.t l.moduli.modulus l.input l.initial.output) l.initial.output l.output l.i
