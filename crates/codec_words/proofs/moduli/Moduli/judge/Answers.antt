use Rattle.std.proofs.Common.{rules}
use Rattle.check_order.proofs.Answers.{handed_on}
use Rattle.codec_words.specs.Words.{size_rows}
use Rattle.codec_words.proofs.Laws.{let_through}
use Rattle.codec_words.proofs.moduli.Moduli.judge.Goals as goal

pub returns-in_err-judge-clause-first : goal.returns-in_err-judge-clause-first
returns-in_err-judge-clause-first c =
    rw (handed_on _ c.from_residual.ensures.1) (c.in_err-judge.ensures (size_rows c.args.t c.args.modulus c.args.differs) (search rules))

pub invariant_of-result : goal.invariant_of-result
invariant_of-result c =
    let k = let_through c.args.t c.args.modulus c.args.differs c.ranges.t.fits (c.in_ok-judge.ensures (size_rows c.args.t c.args.modulus c.args.differs) (search rules)) in
    record { least = k.least; below = k.below }
