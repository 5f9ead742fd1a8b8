use Rattle.std.proofs.Common.{arith}
use Rattle.scheme.proofs.Counts.{nonzero_most, count_most}
use Rattle.gadget_constants.specs.Prepared.{basis_in}
use Rattle.gadget_counts.proofs.Counting.{counted_none, counted_next, counted_all}
use Rattle.gadget_counts.proofs.write_walked.Goals as goal

pub loop-a-init : goal.loop-a-init
loop-a-init c = counted_none _ _ _ c.requires.2 (c.fill.ensures.after (λ y e. e))

pub bounds-counts-nonzero : goal.bounds-counts-nonzero
bounds-counts-nonzero c = omega (arith, nonzero_most (basis_in c.args.p) c.loop-a.a)

pub overflow_add-counts : goal.overflow_add-counts
overflow_add-counts c =
    omega (
      arith,
      c.loop-a.invariant.counts c.nonzero.result (omega (arith, nonzero_most (basis_in c.args.p) c.loop-a.a)),
      count_most (basis_in c.args.p) c.loop-a.a c.nonzero.result,
    )

pub bounds-counts-nonzero-in-loop-a : goal.bounds-counts-nonzero-in-loop-a
bounds-counts-nonzero-in-loop-a c = omega (arith, nonzero_most (basis_in c.args.p) c.loop-a.a)

pub loop-a-preserved : goal.loop-a-preserved
loop-a-preserved c = counted_next _ _ _ _ c.nonzero.ensures c.loop-a.invariant

pub returns : goal.returns
returns c = counted_all _ _ _ (omega arith) c.loop-a.invariant
