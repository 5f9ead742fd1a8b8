use Rattle.std.proofs.Common.{◌≡◌, ◌<◌, ℕ}
use Rattle.saved.specs.Layout.{saved_tag}
use Rattle.pooling_rows.specs.Rows.{place_tag}
use Rattle.pooling_rows.proofs.tags.write_tags.Given as goal

abbrev pub invariant-loop-i : goal.invariant-loop-i
invariant-loop-i l = (k : ℕ) → k < l.i → place_tag l.tags k ≡ saved_tag l.bytes k
