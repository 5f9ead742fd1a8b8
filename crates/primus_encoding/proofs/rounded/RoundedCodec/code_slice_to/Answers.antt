use Rattle.primus_encoding.proofs.Laws.{slice_ready}
use Rattle.primus_encoding.proofs.rounded.RoundedCodec.code_slice_to.Goals as goal

pub write_words-requires : goal.write_words-requires
write_words-requires c = slice_ready c.args.self.plaintext_modulus c.args.self.ciphertext_modulus c.args.input.now c.args.output.now c.args.coding _ c.in_ok-moduli.moduli.modulus c.in_ok-moduli.ensures.first c.in_ok-moduli.ensures.moduli
