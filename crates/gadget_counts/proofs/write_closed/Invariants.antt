use Rattle.gadget_counts.proofs.Counting.{Running}
use Rattle.gadget_counts.proofs.write_closed.Given as goal

abbrev pub invariant-loop-j : goal.invariant-loop-j
invariant-loop-j l = Running l.p l.j l.others l.ways l.words l.counts
