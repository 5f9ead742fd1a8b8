use Rattle.std.proofs.Common.{length}
use Rattle.check_order.proofs.Answers.{handed_on}
use Rattle.lwe_tag.proofs.Writes.{refused, done}
use Rattle.primus_lwe.proofs.Laws.{lengths, mask_ok, room_ok}
use Rattle.primus_lwe.proofs.secret_key.borrowed.encrypt_encoded_to.Goals as goal

pub returns-in_err-encrypt_refusal : goal.returns-in_err-encrypt_refusal
returns-in_err-encrypt_refusal c = rw (handed_on _ c.from_residual.ensures.1) (record { writes = refused c.in_err-encrypt_refusal.ensures })

pub encrypt_to-requires : goal.encrypt_to-requires
encrypt_to-requires c = room_ok _ _ _ _ (lengths _ c.in_ok-encrypt_refusal.ensures)

pub returns : goal.returns
returns c =
    record {
      writes =
          done c.in_ok-encrypt_refusal.ensures c.fresh.ensures
          (rw (mask_ok (length c.args.mask.now) _ _ (lengths _ c.in_ok-encrypt_refusal.ensures)) at c.encrypt_to.ensures);
    }
