use Rattle.std.proofs.Common.{sym, length}
use Rattle.scheme.proofs.Checks.{length_ok}
use Rattle.scheme.proofs.Order.{passed}
use Rattle.check_order.proofs.Answers.{handed_on}
use Rattle.lwe_tag.proofs.Writes.{refused, done}
use Rattle.primus_lwe.proofs.Laws.{lengths}
use Rattle.primus_lwe_batch.proofs.Laws.{run_ok}
use Rattle.primus_lwe_batch.proofs.message_batch.encrypt_message_batch_to.Goals as goal

pub returns-in_err-encrypt_refusal : goal.returns-in_err-encrypt_refusal
returns-in_err-encrypt_refusal c = rw (handed_on _ c.from_residual.ensures.1) (record { writes = refused c.in_err-encrypt_refusal.ensures })

pub write_messages-requires : goal.write_messages-requires
write_messages-requires c =
    let told = c.in_ok-encrypt_refusal.ensures in (run_ok _ _ _ _ _ _ (lengths _ told), passed _ (sym told) 16 tt)

pub returns : goal.returns
returns c =
    let p = lengths _ c.in_ok-encrypt_refusal.ensures in
    record { writes = done c.in_ok-encrypt_refusal.ensures c.fresh.ensures (rw (length_ok (length c.args.secret.now) _ p.key) at c.write_messages.ensures) }
