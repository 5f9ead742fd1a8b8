use Rattle.std.proofs.Common.{sym, ◌∙◌}
use Rattle.readings_files.proofs.Runs.{stop}
use Rattle.readings_files.proofs.run.Goals as goal

pub returns-then-ended : goal.returns-then-ended
returns-then-ended g c =
    stop c.loop-read.invariant c.read_some-s.ensures c.loop-read-test.true (sym c.ended.ensures ∙ c.if-ended.true) c.last.ensures
