use Rattle.std.proofs.Common.{arith}
use Rattle.check_order.proofs.Answers.{handed_on}
use Rattle.lwe_tag.proofs.Writes.{refused, done}
use Rattle.primus_lwe.proofs.Laws.{lengths}
use Rattle.primus_lwe_packed.proofs.Laws.{pack_ok}
use Rattle.primus_lwe_packed.proofs.packed.encrypt_encoded_packed.Goals as goal

pub returns-in_err-packed_refusal : goal.returns-in_err-packed_refusal
returns-in_err-packed_refusal c = rw (handed_on _ c.from_residual.ensures.1) (record { writes = refused c.in_err-packed_refusal.ensures })

pub write_plaintexts-requires : goal.write_plaintexts-requires
write_plaintexts-requires c = let p = pack_ok _ _ _ _ _ _ (lengths _ c.in_ok-packed_refusal.ensures) in (p.keys, p.most, omega (arith, p.fits))

pub returns : goal.returns
returns c =
    let p = pack_ok _ _ _ _ _ _ (lengths _ c.in_ok-packed_refusal.ensures) in
    record { writes = done c.in_ok-packed_refusal.ensures c.untallied.ensures (rw p.each at c.write_plaintexts.ensures) }
