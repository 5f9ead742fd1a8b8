use Rattle.std.proofs.Common.{ℕ, ◌<◌, ◌^◌, get_or, map}
use Rattle.key_switch_tile.specs.Switched.{ReachedBy}
use Rattle.key_switch_native.proofs.switch_tile.Given as goal

abbrev pub invariant-loop-i : goal.invariant-loop-i
invariant-loop-i l = ((k : ℕ) → get_or l.out k 0 < 2 ^ 32) × ReachedBy l.tile l.i (map (λ x. x) l.out)
