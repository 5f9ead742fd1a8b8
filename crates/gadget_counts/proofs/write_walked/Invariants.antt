use Rattle.gadget_constants.specs.Prepared.{basis_in}
use Rattle.gadget_counts.proofs.Counting.{Counted}
use Rattle.gadget_counts.proofs.write_walked.Given as goal

abbrev pub invariant-loop-a : goal.invariant-loop-a
invariant-loop-a l = Counted (basis_in l.p) l.a l.counts
