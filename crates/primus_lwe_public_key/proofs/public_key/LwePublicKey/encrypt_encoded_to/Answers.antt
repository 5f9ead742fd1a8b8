use Rattle.std.proofs.Common.{sym, length}
use Rattle.scheme.proofs.Order.{passed}
use Rattle.check_order.proofs.Answers.{handed_on}
use Rattle.lwe_tag.proofs.Writes.{refused, done}
use Rattle.primus_reduce.specs.Ring.{size_of}
use Rattle.lwe_errors.specs.Errors.{errors_of}
use Rattle.primus_lwe.proofs.Laws.{lengths}
use Rattle.primus_lwe_public_key.proofs.Laws.{lent_ok, public_ok}
use Rattle.primus_lwe_public_key.proofs.public_key.LwePublicKey.encrypt_encoded_to.Goals as goal

pub returns-in_err-public_refusal : goal.returns-in_err-public_refusal
returns-in_err-public_refusal c = rw (handed_on _ c.from_residual.ensures.1) (record { writes = refused c.in_err-public_refusal.ensures })

pub write_public-requires : goal.write_public-requires
write_public-requires c =
    let told = c.in_ok-public_refusal.ensures in
    public_ok _ (errors_of c.args.errors) c.args.coefficients.now _ _ (size_of c.args.params.modulus) c.args.params.error_limit (lengths _ told) (passed _ (sym told) 15 tt)

pub returns : goal.returns
returns c =
    let coefficients = lent_ok (length c.args.coefficients.now) _ _ _ (lengths _ c.in_ok-public_refusal.ensures) in
    record { writes = done c.in_ok-public_refusal.ensures c.untallied.ensures (rw coefficients at c.write_public.ensures) }
