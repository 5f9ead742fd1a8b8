use Rattle.std.proofs.Common.{ap, ◌∙◌}
use Rattle.scheme.specs.Codec.{decode}
use Rattle.check_order.proofs.Answers.{handed_on, refused, served}
use Rattle.primus_reduce.specs.Ring.{size_of}
use Rattle.primus_lwe.proofs.Laws.{lengths, body_at}
use Rattle.primus_lwe.proofs.secret_key.message.decrypt_message.Goals as goal

pub returns-in_err-decrypt_refusal : goal.returns-in_err-decrypt_refusal
returns-in_err-decrypt_refusal c =
    rw (handed_on _ c.from_residual.ensures.1) (record { is = refused _ _ _ (rw c.into.ensures at c.in_err-decrypt_refusal.ensures) })

pub returns : goal.returns
returns c =
    let accepted = rw c.into.ensures at c.in_ok-decrypt_refusal.ensures in
    let phase = rw (c.ring.ensures, body_at _ _ (lengths _ accepted)) at c.phase.ensures in
    record { is = served _ _ _ accepted (c.decode.ensures ∙ ap (decode (size_of c.args.params.modulus) c.args.params.plaintext_modulus) phase) }
