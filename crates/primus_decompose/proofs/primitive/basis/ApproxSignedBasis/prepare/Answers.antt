use Rattle.check_order.proofs.Answers.{refused, handed_on}
use Rattle.primus_decompose.proofs.primitive.basis.ApproxSignedBasis.prepare.Goals as goal

pub returns-in_err-refusal-clause-answered : goal.returns-in_err-refusal-clause-answered
returns-in_err-refusal-clause-answered c = rw (handed_on _ c.from_residual.ensures.1) (refused _ _ _ c.in_err-refusal.ensures)
