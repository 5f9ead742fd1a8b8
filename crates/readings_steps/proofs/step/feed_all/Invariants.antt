use Rattle.std.proofs.Common.{◌≡◌, length, take}
use Rattle.readings_steps.specs.Steps.{fed_all, turns_fed, places}
use Rattle.readings_steps.proofs.step.feed_all.Given as goal

abbrev pub invariant-loop-i : goal.invariant-loop-i
invariant-loop-i l = (length l.turns ≡ 64) × (l.m ≡ fed_all l.initial.m (take l.i l.bytes)) × (l.turns ≡ places 64 l.initial.m.turn (turns_fed l.initial.m (take l.i l.bytes)))
