use Rattle.std.proofs.Common.{◌≡◌, ◌<◌, ℕ, length, get_or}
use Rattle.scheme.specs.Lwe.{Words}
use Rattle.primus_reduce.specs.Ring.{size_of}
use Rattle.primus_lwe_batch.specs.Answers.{batch_phase}
use Rattle.primus_lwe_batch.proofs.message_batch.row_phases.Given as goal

abbrev pub invariant-loop-i : goal.invariant-loop-i
invariant-loop-i l = (j : ℕ) → j < l.i → get_or l.out j 0 ≡ batch_phase (size_of l.ring.modulus) (length l.secret) (Words l.secret) l.input j
