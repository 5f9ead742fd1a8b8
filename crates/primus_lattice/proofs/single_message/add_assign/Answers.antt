use Rattle.std.proofs.Common.{◌∙◌}
use Rattle.check_order.proofs.Answers.{handed_on}
use Rattle.lwe_tag.proofs.Laws.{sum-within}
use Rattle.lwe_tag.proofs.Writes.{refused, done}
use Rattle.primus_lattice.proofs.Laws.{addable}
use Rattle.primus_lattice.proofs.single_message.add_assign.Goals as goal

pub returns-in_err-add_refusal : goal.returns-in_err-add_refusal
returns-in_err-add_refusal c = rw (handed_on _ c.from_residual.ensures.1) (record { writes = refused c.in_err-add_refusal.ensures })

pub add_words-requires : goal.add_words-requires
add_words-requires c =
    let ready = addable c.args.modulus c.args.dimension.0 c.args.x.now c.args.x_tag c.args.y.now c.args.y_tag c.in_ok-add_refusal.ensures in (ready.same, ready.first, ready.second)

pub returns : goal.returns
returns c =
    let ready = addable c.args.modulus c.args.dimension.0 c.args.x.now c.args.x_tag c.args.y.now c.args.y_tag c.in_ok-add_refusal.ensures in
    record { writes = done c.in_ok-add_refusal.ensures (c.tags_sum.ensures ∙ sum-within c.args.x_tag c.args.y_tag ready.sums) c.add_words.ensures }
