use Rattle.std.proofs.Common.{◌∙◌}
use Rattle.checks.proofs.Laws.{magnitudes_any}
use Rattle.checks.proofs.any_outside.Goals as goal

pub returns : goal.returns
returns c = c.loop-c.invariant ∙ magnitudes_any c.args.limit c.args.s.now c.loop-c.c-index c.loop-c-test.false
