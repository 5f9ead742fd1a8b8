use Rattle.primus_decompose.proofs.Answers.{one_word}
use Rattle.primus_decompose.proofs.primitive.basis.ApproxSignedBasis.decompose.Goals as goal

pub returns : goal.returns
returns c = one_word _ _ c.decompose_slice_to.ensures
