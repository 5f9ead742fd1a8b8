use Rattle.std.proofs.Common.{sym, ap, ◌∙◌, length, map}
use Rattle.scheme.proofs.Checks.{length_ok}
use Rattle.scheme.proofs.Order.{done}
use Rattle.scheme.proofs.Lists.{map-tabulate}
use Rattle.scheme.specs.Codec.{decode}
use Rattle.check_order.proofs.Answers.{handed_on, unwritten}
use Rattle.primus_reduce.specs.Ring.{size_of}
use Rattle.primus_lwe.proofs.Laws.{lengths}
use Rattle.primus_lwe_batch.proofs.Laws.{rows_ok}
use Rattle.primus_lwe_batch.proofs.message_batch.decrypt_message_batch_to.Goals as goal

pub returns-in_err-decrypt_refusal : goal.returns-in_err-decrypt_refusal
returns-in_err-decrypt_refusal c =
    rw (handed_on _ c.from_residual.ensures.1) (record { writes = unwritten _ (rw c.into.ensures at c.in_err-decrypt_refusal.ensures) })

pub row_phases-requires : goal.row_phases-requires
row_phases-requires c = rows_ok _ _ _ _ (lengths _ (rw c.into.ensures at c.in_ok-decrypt_refusal.ensures))

pub returns : goal.returns
returns c =
    let told = rw c.into.ensures at c.in_ok-decrypt_refusal.ensures in
    let p = lengths _ told in
    let phases = rw (c.ring.ensures, length_ok (length c.args.secret.now) _ p.key, length_ok (length c.args.out.now) _ p.output) at c.row_phases.ensures in
    record { writes = done (sym told) (c.decode_each.ensures ∙ ap (map (decode (size_of c.args.params.modulus) c.args.params.plaintext_modulus)) phases ∙ map-tabulate _ _ _) }
