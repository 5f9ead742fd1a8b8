use Rattle.std.proofs.Common.{get_or, arith}
use Rattle.primus_reduce.specs.Ring.{size_of}
use Rattle.primus_reduce.proofs.Laws.{product-most}
use Rattle.primus_reduce.proofs.Sums.{product_next}
use Rattle.primus_reduce.proofs.dot.exact_sum.Goals as goal

pub loop-i-preserved : goal.loop-i-preserved
loop-i-preserved g c =
    let e = product_next (g.T.Factor.word_of (size_of c.args.modulus)) c.args.a.now c.args.b.now c.loop-i.i c.index-b-i.result c.word.result (omega (arith, c.loop-i-test.true, c.min-i-end.ensures)) c.index-b-i.is c.word.ensures in
    record {
      so_far = omega (arith, e, c.loop-i.invariant.so_far);
      small = omega (arith, c.loop-i.invariant.small, product-most (get_or c.args.a.now c.loop-i.i 0) c.word.result (c.type_inv.a c.loop-i.i).fits c.word.type_inv);
    }
