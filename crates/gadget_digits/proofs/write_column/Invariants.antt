use mathlib.Core.Path.{◌≡◌}
use Rattle.gadget_digits.specs.Column.{after, Column}
use Rattle.gadget_digits.proofs.write_column.Given as goal

abbrev pub invariant-loop-j : goal.invariant-loop-j
invariant-loop-j l = (l.d ≡ after l.j l.initial.d) × Column l.initial.d l.j l.count l.i l.initial.out l.out
