use Rattle.std.proofs.Common.{arith, ap, ◌∙◌, ◌+◌}
use Rattle.gadget_constants.proofs.Constants.{decomposer_ready}
use Rattle.gadget_digits.proofs.Columns.{after_none, after_next}
use Rattle.gadget_counts.proofs.Counting.{stepped_none, stepped_next, stepped_few, levels_few, stepped_all}
use Rattle.gadget_counts.proofs.nonzero.Goals as goal

pub loop-init : goal.loop-init
loop-init c = (after_none _, stepped_none c.args.p c.args.value)

pub overflow_add-n : goal.overflow_add-n
overflow_add-n c =
    let next = stepped_next c.args.p c.requires.0 c.args.value c.loop.counter c.loop.n c.from-n.result _ c.loop.d c.loop-test.true
    (c.decomposer-d.ensures ∙ decomposer_ready _ c.requires.0 _ c.requires.1) c.loop.invariant.0 (rw c.step-s.ensures at c.from-n.ensures) c.loop.invariant.1 in
    omega (arith, stepped_few c.args.p c.args.value (c.loop.counter + 1) (c.loop.n + c.from-n.result) next, levels_few c.args.p c.requires.0)

pub loop-preserved : goal.loop-preserved
loop-preserved c = (
  ap (λ x. x.next) c.step-s.ensures ∙ after_next c.loop.counter c.decomposer-d.result c.loop.d c.loop.invariant.0,
  stepped_next c.args.p c.requires.0 c.args.value c.loop.counter c.loop.n c.from-n.result _ c.loop.d c.loop-test.true
      (c.decomposer-d.ensures ∙ decomposer_ready _ c.requires.0 _ c.requires.1) c.loop.invariant.0 (rw c.step-s.ensures at c.from-n.ensures) c.loop.invariant.1,
)

pub returns : goal.returns
returns c = stepped_all c.args.p c.args.value c.loop.counter c.loop.n (omega arith) c.loop.invariant.1
