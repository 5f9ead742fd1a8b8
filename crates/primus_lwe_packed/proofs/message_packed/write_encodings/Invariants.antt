use Rattle.std.proofs.Common.{◌≡◌, ◌<◌, ℕ, get_or}
use Rattle.primus_reduce.specs.Ring.{size_of}
use Rattle.codec_words.specs.Embedding.{encode_word}
use Rattle.primus_lwe_packed.proofs.message_packed.write_encodings.Given as goal

abbrev pub invariant-loop-i : goal.invariant-loop-i
invariant-loop-i l =
    (k : ℕ) → k < l.i → get_or l.bodies k 0 ≡ encode_word l.embedding (size_of l.moduli.modulus) l.moduli.t (get_or l.messages k 0)
