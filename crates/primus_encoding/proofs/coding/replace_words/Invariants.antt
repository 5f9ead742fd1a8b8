use Rattle.scheme.proofs.InPlace.{Filled}
use Rattle.primus_encoding.specs.Coding.{coded}
use Rattle.primus_encoding.proofs.coding.replace_words.Given as goal

abbrev pub invariant-loop-word : goal.invariant-loop-word
invariant-loop-word l =
    Filled (coded l.coding l.moduli.t l.moduli.modulus l.initial.values l.initial.values) l.initial.values l.values l.word-index
