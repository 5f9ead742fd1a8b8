use mathlib.Core.List.{map}
use Rattle.scheme.specs.Codec.{decode}
use Rattle.scheme.proofs.InPlace.{Filled}
use Rattle.primus_reduce.specs.Ring.{size_of}
use Rattle.codec_words.proofs.moduli.Moduli.decode_each.Given as goal

abbrev pub invariant-loop-word : goal.invariant-loop-word
invariant-loop-word l = Filled (map (decode (size_of l.self.modulus) l.self.t) l.initial.words) l.initial.words l.words l.word-index
