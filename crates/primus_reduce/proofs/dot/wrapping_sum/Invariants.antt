use Rattle.std.proofs.Common.{◌≡◌, ◌%◌, ◌^◌, map}
use Rattle.scheme.specs.Numbers.{sum_ℕ}
use Rattle.primus_reduce.specs.Ring.{size_of}
use Rattle.primus_reduce.specs.Dot.{product}
use Rattle.primus_reduce.proofs.dot.wrapping_sum.Given as goal

abbrev pub invariant-loop-i : goal.invariant-loop-i
invariant-loop-i g l =
    l.sum ≡ sum_ℕ l.i (product l.a (map (g.T.Factor.word_of (size_of l.modulus)) l.b)) % 2 ^ 32
