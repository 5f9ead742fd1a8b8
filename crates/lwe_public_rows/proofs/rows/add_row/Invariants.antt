use Rattle.std.proofs.Common.{◌≡◌, ◌<◌, ◌≤◌, ℕ, get_or}
use Rattle.primus_reduce.specs.Ring.{size_of}
use Rattle.lwe_public_rows.specs.Public.{plus_times}
use Rattle.lwe_public_rows.proofs.rows.add_row.Given as goal

abbrev pub invariant-loop-k : goal.invariant-loop-k
invariant-loop-k l =
    ((j : ℕ) → j < l.k → get_or l.out j 0 ≡ plus_times (size_of l.ring.modulus) l.r (get_or l.initial.out j 0) (get_or l.row j 0))
    × ((j : ℕ) → l.k ≤ j → get_or l.out j 0 ≡ get_or l.initial.out j 0)
