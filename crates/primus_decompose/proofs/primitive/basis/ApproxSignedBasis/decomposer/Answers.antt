use Rattle.std.proofs.Common.{ap, ◌∙◌}
use Rattle.check_order.proofs.Answers.{refused, served, handed_on}
use Rattle.gadget_constants.specs.Prepared.{basis_in}
use Rattle.gadget_digits.specs.Step.{decomposer_of}
use Rattle.gadget_constants.proofs.Constants.{decomposer_ready}
use Rattle.primus_decompose.proofs.Answers.{passes}
use Rattle.primus_decompose.proofs.primitive.basis.ApproxSignedBasis.decomposer.Goals as goal

pub returns-in_err-word_refusal : goal.returns-in_err-word_refusal
returns-in_err-word_refusal c = rw (handed_on _ c.from_residual.ensures.1) (refused _ _ _ c.in_err-word_refusal.ensures)

pub prepared-p-requires : goal.prepared-p-requires
prepared-p-requires c = (passes c.args.self c.args.value c.in_ok-word_refusal.ensures).judged

pub returns : goal.returns
returns c =
    let r = (passes c.args.self c.args.value c.in_ok-word_refusal.ensures).ready c.prepared-p.ensures in
    served _ _ _ c.in_ok-word_refusal.ensures
    (c.decomposer.ensures ∙ decomposer_ready _ r.0 _ r.1 ∙ ap (λ p. decomposer_of (basis_in p) c.args.value) c.prepared-p.ensures.1)
