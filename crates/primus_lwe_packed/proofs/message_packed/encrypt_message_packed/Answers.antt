use Rattle.std.proofs.Common.{sym, ap, pos, length-append, arith, ◌∙◌}
use Rattle.scheme.proofs.Order.{passed}
use Rattle.check_order.proofs.Answers.{handed_on}
use Rattle.lwe_tag.proofs.Writes.{refused, done}
use Rattle.primus_lwe.specs.Answers.{encodings}
use Rattle.primus_lwe.proofs.Laws.{lengths}
use Rattle.primus_lwe_packed.proofs.Laws.{pack_ok, packed_held}
use Rattle.primus_lwe_packed.proofs.message_packed.encrypt_message_packed.Goals as goal

pub returns-in_err-packed_message_refusal : goal.returns-in_err-packed_message_refusal
returns-in_err-packed_message_refusal c = rw (handed_on _ c.from_residual.ensures.1) (record { writes = refused c.in_err-packed_message_refusal.ensures })

pub split_at_mut-bodies-requires : goal.split_at_mut-bodies-requires
split_at_mut-bodies-requires c = let p = pack_ok _ _ _ _ _ _ (lengths _ c.in_ok-packed_message_refusal.ensures) in omega (arith, p.fits)

pub write_encodings-requires : goal.write_encodings-requires
write_encodings-requires c =
    let told = c.in_ok-packed_message_refusal.ensures in
    let p = pack_ok _ _ _ _ _ _ (lengths _ told) in
    (omega (arith, p.fits, c.split_at_mut-bodies.ensures.back_len), passed _ (sym told) 16 tt)

pub write_packed-requires : goal.write_packed-requires
write_packed-requires c =
    let p = pack_ok _ _ _ _ _ _ (lengths _ c.in_ok-packed_message_refusal.ensures) in
    let l = length-append c.split_at_mut-bodies.result.0.now c.write_encodings.new.bodies in
    (p.keys, omega (arith, l), omega (arith, l, p.fits, p.most))

pub returns : goal.returns
returns c =
    let p = pack_ok _ _ _ _ _ _ (lengths _ c.in_ok-packed_message_refusal.ensures) in
    record {
      writes =
          done c.in_ok-packed_message_refusal.ensures c.untallied.ensures
          (rw c.ring.ensures at c.write_packed.ensures
          ∙ packed_held _ _ _ _ c.split_at_mut-bodies.result.0.now c.write_encodings.new.bodies _ _ (encodings c.args.embedding c.args.params c.args.messages.now) p.each c.split_at_mut-bodies.ensures.front_len
          (omega (arith, p.fits, c.split_at_mut-bodies.ensures.back_len))
          (λ i h. ap pos (c.write_encodings.ensures i h)));
    }
