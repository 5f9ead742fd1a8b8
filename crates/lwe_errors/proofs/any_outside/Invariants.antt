use Rattle.std.proofs.Common.{◌≡◌, nat_le, take}
use Rattle.std.specs.List.{list_any}
use lib.IntN.{nat_abs}
use Rattle.scheme.specs.Numbers.{nearest}
use Rattle.primus_reduce.specs.Ring.{size_of}
use Rattle.lwe_errors.proofs.any_outside.Given as goal

abbrev pub invariant-loop-word : goal.invariant-loop-word
invariant-loop-word l = l.any ≡ list_any (λ w. nat_le l.limit (nat_abs (nearest (size_of l.modulus) w))) (take l.word-index l.words)
