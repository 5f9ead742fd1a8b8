use Rattle.primus_encoding.proofs.Laws.{slice_ready}
use Rattle.primus_encoding.proofs.rounded.RoundedCodec.code_slice_assign.Goals as goal

pub replace_words-requires : goal.replace_words-requires
replace_words-requires c = (slice_ready c.args.self.plaintext_modulus c.args.self.ciphertext_modulus c.args.values.now c.args.values.now c.args.coding _ c.in_ok-moduli.moduli.modulus c.in_ok-moduli.ensures.first c.in_ok-moduli.ensures.moduli).0
