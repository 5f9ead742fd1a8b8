use Rattle.std.proofs.Common.{◌∙◌}
use Rattle.primus_reduce.specs.Ring.{size_of}
use Rattle.lwe_errors.proofs.Laws.{values_any}
use Rattle.lwe_errors.proofs.any_outside.Goals as goal

pub returns : goal.returns
returns c =
    c.loop-word.invariant
    ∙ values_any (size_of c.args.modulus) c.args.limit c.args.words.now c.loop-word.word-index c.loop-word-test.false
