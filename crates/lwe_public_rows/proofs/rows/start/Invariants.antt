use Rattle.std.proofs.Common.{◌≡◌, ◌<◌, ℕ, get_or}
use Rattle.primus_reduce.specs.Ring.{size_of, modulo}
use Rattle.lwe_errors.specs.Errors.{errors_in}
use Rattle.lwe_public_rows.proofs.rows.start.Given as goal

abbrev pub invariant-loop-k : goal.invariant-loop-k
invariant-loop-k l = (j : ℕ) → j < l.k → get_or l.out j 0 ≡ modulo (size_of l.fn.ring.modulus) (errors_in l.fn.ring.modulus l.fn.errors j)
