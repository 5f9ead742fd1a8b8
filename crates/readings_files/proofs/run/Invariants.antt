use Rattle.readings_files.proofs.Runs.{Reached}
use Rattle.readings_files.proofs.run.Given as goal

abbrev pub invariant-loop-read : goal.invariant-loop-read
invariant-loop-read g l = Reached l.m l._read
