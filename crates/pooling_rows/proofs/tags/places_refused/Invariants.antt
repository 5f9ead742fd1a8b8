use Rattle.std.proofs.Common.{◌≡◌}
use Rattle.pooling_rows.specs.Rows.{somewhere, place_fails}
use Rattle.pooling_rows.proofs.tags.places_refused.Given as goal

abbrev pub invariant-loop-i : goal.invariant-loop-i
invariant-loop-i l = l.any ≡ somewhere l.i (place_fails l.tags l.bytes)
