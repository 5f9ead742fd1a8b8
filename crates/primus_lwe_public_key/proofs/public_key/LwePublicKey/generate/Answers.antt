use Rattle.std.proofs.Common.{sym}
use Rattle.scheme.proofs.Order.{done}
use Rattle.check_order.proofs.Answers.{handed_on, unwritten}
use Rattle.primus_lwe.proofs.Laws.{lengths}
use Rattle.primus_lwe_public_key.proofs.Laws.{generation_ok}
use Rattle.primus_lwe_public_key.proofs.public_key.LwePublicKey.generate.Goals as goal

pub returns-in_err-generate_refusal : goal.returns-in_err-generate_refusal
returns-in_err-generate_refusal c = rw (handed_on _ c.from_residual.ensures.1) (record { writes = unwritten _ c.in_err-generate_refusal.ensures })

pub write_zeros-requires : goal.write_zeros-requires
write_zeros-requires c = rw c.get-n.ensures (generation_ok _ _ _ _ (lengths _ c.in_ok-generate_refusal.ensures))

pub returns : goal.returns
returns c = record { writes = done (sym c.in_ok-generate_refusal.ensures) (rw c.get-n.ensures at c.write_zeros.ensures) }
