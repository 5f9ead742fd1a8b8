use Rattle.std.proofs.Common.{◌≡◌}
use Rattle.lwe_tag.specs.Answers.{tag_fails}
use Rattle.saved.specs.Layout.{saved_tag}
use Rattle.pooling_rows.specs.Rows.{somewhere}
use Rattle.pooling_rows.proofs.tags.saved_refused.Given as goal

abbrev pub invariant-loop-i : goal.invariant-loop-i
invariant-loop-i l = l.any ≡ somewhere l.i (λ i. tag_fails (saved_tag l.bytes i))
