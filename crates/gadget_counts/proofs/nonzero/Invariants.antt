use Rattle.std.proofs.Common.{◌≡◌}
use Rattle.gadget_digits.specs.Column.{after}
use Rattle.gadget_counts.proofs.Counting.{Stepped}
use Rattle.gadget_counts.proofs.nonzero.Given as goal

abbrev pub invariant-loop : goal.invariant-loop
invariant-loop l = (l.d ≡ after l.counter l.initial.d) × Stepped l.fn.p l.fn.value l.counter l.n
