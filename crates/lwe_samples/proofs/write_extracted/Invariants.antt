use Rattle.std.proofs.Common.{◌≡◌, ◌<◌, ℕ, get_or, pos, neg_ℤ}
use Rattle.primus_reduce.specs.Ring.{size_of, modulo}
use Rattle.lwe_samples.proofs.write_extracted.Given as goal

abbrev pub invariant-loop-k : goal.invariant-loop-k
invariant-loop-k l = (k : ℕ) → k < l.k → get_or l.start k 0 ≡ modulo (size_of l.ring.modulus) (neg_ℤ (pos (get_or l.wrapped k 0)))
