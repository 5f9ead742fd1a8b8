use Rattle.std.proofs.Common.{arith}
use Rattle.primus_reduce.specs.Ring.{size_of}
use Rattle.primus_reduce.proofs.Sums.{product_next}
use Rattle.primus_reduce.proofs.dot.wrapping_sum.Goals as goal

pub loop-i-preserved : goal.loop-i-preserved
loop-i-preserved g c =
    let e = product_next (g.T.Factor.word_of (size_of c.args.modulus)) c.args.a.now c.args.b.now c.loop-i.i c.index-b-i.result c.word.result (omega (arith, c.loop-i-test.true, c.min-i-end.ensures)) c.index-b-i.is c.word.ensures in
    omega (arith, e, c.loop-i.invariant)
