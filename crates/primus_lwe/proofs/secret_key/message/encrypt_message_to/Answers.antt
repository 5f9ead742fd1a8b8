use Rattle.std.proofs.Common.{sym, length}
use Rattle.scheme.proofs.Order.{passed}
use Rattle.scheme.proofs.Checks.{message_ok}
use Rattle.check_order.proofs.Answers.{handed_on}
use Rattle.lwe_tag.proofs.Writes.{refused, done}
use Rattle.primus_lwe.proofs.Laws.{lengths, mask_ok, room_ok}
use Rattle.primus_lwe.proofs.secret_key.message.encrypt_message_to.Goals as goal

pub returns-in_err-message_refusal : goal.returns-in_err-message_refusal
returns-in_err-message_refusal c = rw (handed_on _ c.from_residual.ensures.1) (record { writes = refused c.in_err-message_refusal.ensures })

pub encode_as-plaintext-requires : goal.encode_as-plaintext-requires
encode_as-plaintext-requires c = message_ok _ _ (passed _ (sym c.in_ok-message_refusal.ensures) 16 tt)

pub encrypt_to-requires : goal.encrypt_to-requires
encrypt_to-requires c = room_ok _ _ _ _ (lengths _ c.in_ok-message_refusal.ensures)

pub returns : goal.returns
returns c =
    record {
      writes =
          done c.in_ok-message_refusal.ensures c.fresh.ensures
          (rw (c.ring.ensures, mask_ok (length c.args.mask.now) _ _ (lengths _ c.in_ok-message_refusal.ensures), c.encode_as-plaintext.ensures) at c.encrypt_to.ensures);
    }
