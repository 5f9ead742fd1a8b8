use Rattle.std.proofs.Common.{◌≡◌, ℕ, ◌<◌, length, get_or}
use Rattle.gadget_constants.specs.Prepared.{scalar_at}
use Rattle.gadget_constants.proofs.prepared.scalars_from.Given as goal

abbrev pub invariant-loop-j : goal.invariant-loop-j
invariant-loop-j l = (length l.weight-items ≡ 16) × ((i : ℕ) → i < l.j → get_or l.weight-items i 0 ≡ scalar_at l.d l.log l.levels i)
