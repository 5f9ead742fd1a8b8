use Rattle.std.proofs.Common.{◌≡◌, ℕ, ◌<◌, length, pos, get_or}
use Rattle.gadget_digits.specs.Column.{after}
use Rattle.readings_digits.specs.Digits.{stepped_digit}
use Rattle.readings_digits.proofs.of_steps.Given as goal

abbrev pub invariant-loop-j : goal.invariant-loop-j
invariant-loop-j l = (length l.digit-items ≡ 16) × (l.d ≡ after l.j l.initial.d) × ((i : ℕ) → i < l.j → get_or l.digit-items i (pos 0) ≡ stepped_digit l.b l.initial.d i)
