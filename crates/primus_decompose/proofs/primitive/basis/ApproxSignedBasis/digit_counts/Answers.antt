use Rattle.check_order.proofs.Answers.{unwritten, handed_on}
use Rattle.primus_decompose.proofs.Answers.{countable}
use Rattle.primus_decompose.proofs.primitive.basis.ApproxSignedBasis.digit_counts.Goals as goal

pub prepared-requires : goal.prepared-requires
prepared-requires c = (countable c.args.self _ c.in_ok-count_refusal.ensures).judged

pub write_counts-requires : goal.write_counts-requires
write_counts-requires c =
    let e = c.prepared.ensures in
    (e.0, rw e.1 (countable c.args.self _ c.in_ok-count_refusal.ensures).sized)

pub returns-in_err-count_refusal : goal.returns-in_err-count_refusal
returns-in_err-count_refusal c = rw (handed_on _ c.from_residual.ensures.1) (record { writes = unwritten _ c.in_err-count_refusal.ensures })
