use Rattle.std.proofs.Common.{ap, ◌∙◌}
use Rattle.check_order.proofs.Answers.{refused, served, handed_on}
use Rattle.gadget_constants.specs.Prepared.{basis_in}
use Rattle.gadget_constants.specs.Word.{reading_of}
use Rattle.primus_decompose.proofs.Answers.{passes}
use Rattle.primus_decompose.proofs.primitive.basis.ApproxSignedBasis.reading.Goals as goal

pub returns-in_err-word_refusal : goal.returns-in_err-word_refusal
returns-in_err-word_refusal c = rw (handed_on _ c.from_residual.ensures.1) (refused _ _ _ c.in_err-word_refusal.ensures)

pub prepared-requires : goal.prepared-requires
prepared-requires c = (passes c.args.self c.args.value c.in_ok-word_refusal.ensures).judged

pub read-requires : goal.read-requires
read-requires c = (passes c.args.self c.args.value c.in_ok-word_refusal.ensures).ready c.prepared.ensures

pub returns : goal.returns
returns c =
    served _ _ _ c.in_ok-word_refusal.ensures (c.read.ensures ∙ ap (λ p. reading_of (basis_in p) c.args.value) c.prepared.ensures.1)
