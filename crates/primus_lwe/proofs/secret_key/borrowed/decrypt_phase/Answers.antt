use Rattle.check_order.proofs.Answers.{handed_on, refused, served}
use Rattle.primus_lwe.proofs.Laws.{lengths, body_at}
use Rattle.primus_lwe.proofs.secret_key.borrowed.decrypt_phase.Goals as goal

pub returns-in_err-decrypt_refusal : goal.returns-in_err-decrypt_refusal
returns-in_err-decrypt_refusal c = rw (handed_on _ c.from_residual.ensures.1) (record { is = refused _ _ _ c.in_err-decrypt_refusal.ensures })

pub returns : goal.returns
returns c =
    record { is = served _ _ _ c.in_ok-decrypt_refusal.ensures (rw (body_at _ _ (lengths _ c.in_ok-decrypt_refusal.ensures)) at c.phase.ensures) }
