use Rattle.std.proofs.Common.{◌≡◌, nat_le, take, unsigned_abs}
use Rattle.std.specs.List.{list_any}
use Rattle.checks.proofs.any_outside.Given as goal

abbrev pub invariant-loop-c : goal.invariant-loop-c
invariant-loop-c l = l.any ≡ list_any (λ c. nat_le l.limit (unsigned_abs c)) (take l.c-index l.s)
