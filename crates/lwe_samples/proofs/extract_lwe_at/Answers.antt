use Rattle.std.proofs.Common.{length, arith, rules}
use Rattle.check_order.proofs.Answers.{handed_on}
use Rattle.lwe_tag.proofs.Writes.{refused, done}
use Rattle.lwe_samples.proofs.Laws.{extractable}
use Rattle.lwe_samples.proofs.extract_lwe_at.Goals as goal

pub returns-in_err-extract_refusal : goal.returns-in_err-extract_refusal
returns-in_err-extract_refusal c = rw (handed_on _ c.from_residual.ensures.1) (record { writes = refused c.in_err-extract_refusal.ensures })

pub invariant_of-ring : goal.invariant_of-ring
invariant_of-ring c = record { positive = (extractable c.args.modulus c.args.dimension.0 c.args.input.now c.args.tag c.args.index (length c.args.out.now) c.in_ok-extract_refusal.ensures).positive }

pub write_extracted-requires : goal.write_extracted-requires
write_extracted-requires c =
    let r = extractable c.args.modulus c.args.dimension.0 c.args.input.now c.args.tag c.args.index (length c.args.out.now) c.in_ok-extract_refusal.ensures in
    (omega (arith, r.body, r.width), omega (arith, r.within, r.width))

pub returns : goal.returns
returns c =
    let r = extractable c.args.modulus c.args.dimension.0 c.args.input.now c.args.tag c.args.index (length c.args.out.now) c.in_ok-extract_refusal.ensures in
    record { writes = done c.in_ok-extract_refusal.ensures (search rules) (rw r.width at c.write_extracted.ensures) }
