use Rattle.std.proofs.Common.{sym, ap, map, ◌∙◌}
use Rattle.scheme.specs.Codec.{decode}
use Rattle.scheme.proofs.Lists.{map-tabulate}
use Rattle.scheme.proofs.Order.{done}
use Rattle.check_order.proofs.Answers.{handed_on, unwritten}
use Rattle.primus_reduce.specs.Ring.{size_of}
use Rattle.primus_lwe.proofs.Laws.{lengths}
use Rattle.primus_lwe_packed.proofs.Laws.{phase_ok}
use Rattle.primus_lwe_packed.proofs.message_packed.decrypt_message_packed.Goals as goal

pub returns-in_err-packed_decrypt_refusal : goal.returns-in_err-packed_decrypt_refusal
returns-in_err-packed_decrypt_refusal c = rw (handed_on _ c.from_residual.ensures.1) (record { writes = unwritten _ c.in_err-packed_decrypt_refusal.ensures })

pub phases-requires : goal.phases-requires
phases-requires c = let p = phase_ok _ _ _ _ _ (lengths _ c.in_ok-packed_decrypt_refusal.ensures) in (p.bodies, p.whole)

pub returns : goal.returns
returns c =
    let told = c.in_ok-packed_decrypt_refusal.ensures in
    let p = phase_ok _ _ _ _ _ (lengths _ told) in
    let phases = rw (c.ring.ensures, p.keys, p.count) at c.phases.ensures in
    record { writes = done (sym told) (c.decode_each.ensures ∙ ap (map (decode (size_of c.args.params.modulus) c.args.params.plaintext_modulus)) phases ∙ map-tabulate _ _ _) }
