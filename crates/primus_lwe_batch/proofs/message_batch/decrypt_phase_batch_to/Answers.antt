use Rattle.std.proofs.Common.{sym, length}
use Rattle.scheme.proofs.Checks.{length_ok}
use Rattle.scheme.proofs.Order.{done}
use Rattle.check_order.proofs.Answers.{handed_on, unwritten}
use Rattle.primus_lwe.proofs.Laws.{lengths}
use Rattle.primus_lwe_batch.proofs.Laws.{rows_ok}
use Rattle.primus_lwe_batch.proofs.message_batch.decrypt_phase_batch_to.Goals as goal

pub returns-in_err-decrypt_refusal : goal.returns-in_err-decrypt_refusal
returns-in_err-decrypt_refusal c = rw (handed_on _ c.from_residual.ensures.1) (record { writes = unwritten _ c.in_err-decrypt_refusal.ensures })

pub row_phases-requires : goal.row_phases-requires
row_phases-requires c = rows_ok _ _ _ _ (lengths _ c.in_ok-decrypt_refusal.ensures)

pub returns : goal.returns
returns c =
    let told = c.in_ok-decrypt_refusal.ensures in
    let p = lengths _ told in
    record { writes = done (sym told) (rw (length_ok (length c.args.secret.now) _ p.key, length_ok (length c.args.out.now) _ p.output) at c.row_phases.ensures) }
