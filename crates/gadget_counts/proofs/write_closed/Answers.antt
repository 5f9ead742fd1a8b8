use Rattle.std.proofs.Common.{arith}
use Rattle.gadget_constants.proofs.Constants.{dropped_most}
use Rattle.gadget_counts.proofs.Counting.{running_none, running_next, running_all, product_fits, words_fit, ways_fit}
use Rattle.gadget_counts.proofs.write_closed.Goals as goal

pub power-words-requires : goal.power-words-requires
power-words-requires c = omega (arith, dropped_most c.args.p c.requires.0)

pub loop-j-init : goal.loop-j-init
loop-j-init c = running_none c.args.p c.requires.0 _ c.requires.2 _ _ c.power-others.ensures c.power-words.ensures

pub overflow_mul-count : goal.overflow_mul-count
overflow_mul-count c =
    omega (arith, product_fits c.args.p c.requires.0 c.requires.1 _ _ _ _ _ (omega (arith, c.requires.2)) c.loop-j.invariant)

pub overflow_cast-count : goal.overflow_cast-count
overflow_cast-count c =
    omega (arith, product_fits c.args.p c.requires.0 c.requires.1 _ _ _ _ _ (omega (arith, c.requires.2)) c.loop-j.invariant)

pub overflow_mul-ways : goal.overflow_mul-ways
overflow_mul-ways c =
    omega (arith, ways_fit c.args.p c.requires.0 c.requires.1 _ _ _ _ _ (omega (arith, c.requires.2)) c.loop-j.invariant)

pub overflow_mul-words : goal.overflow_mul-words
overflow_mul-words c =
    omega (arith, words_fit c.args.p c.requires.0 c.requires.1 _ _ _ _ _ (omega (arith, c.requires.2)) c.loop-j.invariant)

pub loop-j-preserved : goal.loop-j-preserved
loop-j-preserved c =
    running_next c.args.p c.requires.0 c.requires.1 _ _ _ _ _ (omega (arith, c.requires.2)) c.loop-j.invariant

pub returns : goal.returns
returns c = running_all _ _ _ _ _ _ (omega (arith, c.requires.2)) c.loop-j.invariant
