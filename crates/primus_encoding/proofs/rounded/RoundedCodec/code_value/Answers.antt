use Rattle.std.proofs.Common.{[], ◌∷◌, arith}
use Rattle.check_order.proofs.Answers.{handed_on}
use Rattle.primus_encoding.proofs.Laws.{judged_refused, judged_given, slice_ready, message_at}
use Rattle.primus_encoding.proofs.rounded.RoundedCodec.code_value.Goals as goal

pub returns-in_err-moduli : goal.returns-in_err-moduli
returns-in_err-moduli c =
    rw (handed_on _ c.from_residual.ensures.1) (judged_refused _ _ _ _ c.args.coding _ c.in_err-moduli.ensures.first)

pub code_word-requires : goal.code_word-requires
code_word-requires c =
    message_at c.args.coding _ (c.args.x ∷ [])
    (slice_ready c.args.self.plaintext_modulus c.args.self.ciphertext_modulus (c.args.x ∷ []) (c.args.held ∷ []) c.args.coding _ c.in_ok-moduli.moduli.modulus c.in_ok-moduli.ensures.first c.in_ok-moduli.ensures.moduli).0 0 (omega arith)

pub returns : goal.returns
returns c = judged_given _ _ _ _ c.args.coding _ c.in_ok-moduli.ensures.first c.in_ok-moduli.ensures.moduli c.code_word.ensures
