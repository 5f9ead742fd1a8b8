use Rattle.std.proofs.Common.{pos, length, get_or}
use Rattle.scheme.specs.Lwe.{words}
use Rattle.primus_reduce.specs.Ring.{size_of}
use Rattle.codec_words.specs.Embedding.{encode_word}
use Rattle.lwe_errors.specs.Errors.{errors_in}
use Rattle.lwe_secret_key.proofs.Runs.{Rows}
use Rattle.primus_lwe_batch.proofs.message_batch.write_messages.Given as goal

abbrev pub invariant-loop-i : goal.invariant-loop-i
invariant-loop-i l = Rows (size_of l.moduli.modulus) (length l.secret) l.masks (words l.secret) (errors_in l.moduli.modulus l.fn.errors) (λ k. pos (encode_word l.embedding (size_of l.moduli.modulus) l.moduli.t (get_or l.messages k 0))) (length l.messages) l.initial.out l.out l.i
