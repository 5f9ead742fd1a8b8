use Rattle.std.proofs.Common.{sym}
use Rattle.scheme.proofs.Order.{done}
use Rattle.check_order.proofs.Answers.{handed_on, unwritten}
use Rattle.primus_lwe.proofs.Laws.{lengths}
use Rattle.primus_lwe_packed.proofs.Laws.{phase_ok}
use Rattle.primus_lwe_packed.proofs.packed.decrypt_phase_packed.Goals as goal

pub returns-in_err-packed_phase_refusal : goal.returns-in_err-packed_phase_refusal
returns-in_err-packed_phase_refusal c = rw (handed_on _ c.from_residual.ensures.1) (record { writes = unwritten _ c.in_err-packed_phase_refusal.ensures })

pub phases-requires : goal.phases-requires
phases-requires c = let p = phase_ok _ _ _ _ _ (lengths _ c.in_ok-packed_phase_refusal.ensures) in (p.bodies, p.whole)

pub returns : goal.returns
returns c =
    let told = c.in_ok-packed_phase_refusal.ensures in let p = phase_ok _ _ _ _ _ (lengths _ told) in
    record { writes = done (sym told) (rw (p.keys, p.count) at c.phases.ensures) }
