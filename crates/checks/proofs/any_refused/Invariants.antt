use Rattle.std.proofs.Common.{◌≡◌, nat_le, take}
use Rattle.std.specs.List.{list_any}
use Rattle.checks.proofs.any_refused.Given as goal

abbrev pub invariant-loop-x : goal.invariant-loop-x
invariant-loop-x l = l.any ≡ list_any (nat_le l.q) (take l.x-index l.s)
