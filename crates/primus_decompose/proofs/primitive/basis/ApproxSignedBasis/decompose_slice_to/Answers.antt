use Rattle.check_order.proofs.Answers.{unwritten, handed_on}
use Rattle.primus_decompose.proofs.Answers.{decomposable}
use Rattle.primus_decompose.proofs.primitive.basis.ApproxSignedBasis.decompose_slice_to.Goals as goal

pub prepared-requires : goal.prepared-requires
prepared-requires c = (decomposable {b = c.args.self} {xs = c.args.values.now} c.in_ok-slice_refusal.ensures).judged

pub write_columns-requires : goal.write_columns-requires
write_columns-requires c =
    let judged = decomposable {b = c.args.self} {xs = c.args.values.now} c.in_ok-slice_refusal.ensures in
    let e = c.prepared.ensures in
    (e.0, rw e.1 judged.below, rw e.1 judged.sized)

pub returns-in_err-slice_refusal : goal.returns-in_err-slice_refusal
returns-in_err-slice_refusal c = rw (handed_on _ c.from_residual.ensures.1) (record { writes = unwritten _ c.in_err-slice_refusal.ensures })
