use Rattle.std.proofs.Common.{◌≡◌, ◌<◌, length, ℕ, get_or}
use Rattle.scheme.specs.Lwe.{words, packed_phase}
use Rattle.primus_reduce.specs.Ring.{size_of}
use Rattle.lwe_packing.proofs.packed.phases.Given as goal

abbrev pub invariant-loop-i : goal.invariant-loop-i
invariant-loop-i l = (k : ℕ) → k < l.i → get_or l.out k 0 ≡ packed_phase (size_of l.fn.ring.modulus) (length l.secret) l.input (words l.secret) k
