use Rattle.std.proofs.Common.{◌≡◌}
use Rattle.scheme.specs.Checks.{words_fail}
use Rattle.primus_reduce.specs.Ring.{size_of}
use Rattle.saved.specs.Layout.{file_words}
use Rattle.pooling_refusals.proofs.total.file_words_refused.Given as goal

abbrev pub invariant-loop-i : goal.invariant-loop-i
invariant-loop-i l = l.any ≡ words_fail (size_of l.q) (file_words l.bytes l.i)
