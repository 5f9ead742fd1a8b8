use Prim.Native.Nat.{◌<◌, ◌*◌, ◌+◌}
use mathlib.Core.Path.{ap, ◌∙◌}
use native.Mathlib.Omega.{arith}
use lib.Arith.{digits_lt}
use lib.ListN.{length}
use Rattle.gadget_digits.proofs.Columns.{column_next, after_next}
use Rattle.gadget_digits.proofs.write_column.Goals as goal

pub loop-j-preserved : goal.loop-j-preserved
loop-j-preserved c =
    let place : c.loop-j.j * c.args.count + c.args.i < c.args.levels * c.args.count = digits_lt c.loop-j-test.true c.requires.1 in
    let e = c.step-s.ensures in
    let n : c.loop-j.j * c.args.count + c.args.i < length c.loop-j.out = omega (arith, place) in (
      ap (λ x. x.next) e ∙ after_next c.loop-j.j c.args.start c.loop-j.d c.loop-j.invariant.0,
      rw (ap (λ x. x.digit) e)
          (column_next c.args.start c.loop-j.d c.loop-j.j c.args.count c.args.i c.args.out.now c.loop-j.out c.requires.1 n c.loop-j.invariant.0 c.loop-j.invariant.1),
    )
