use Prim.Native.Nat.{◌+◌, ◌*◌}
use native.Mathlib.Omega.{arith}
use Rattle.scheme.proofs.InPlace.{zipped_next}
use denote.Param.{number}
use Rattle.key_switch_accumulate.specs.contracts.add_multiple.{OPPOSITE-type}
use Rattle.key_switch_accumulate.specs.Rows.{addend_of}
use Rattle.key_switch_accumulate.proofs.Rows.{word_at, room_at, addend-most}
use Rattle.key_switch_accumulate.proofs.add_multiple.Goals as goal

pub addend-y-requires : goal.addend-y-requires
addend-y-requires g c = word_at _ _ _ _ _ c.requires _ _ c.loop-k.invariant (omega arith)

pub more-requires : goal.more-requires
more-requires g c =
    let word = word_at _ _ _ _ _ c.requires _ _ c.loop-k.invariant (omega arith) in
    rw c.addend-y.ensures (room_at _ _ _ _ _ c.requires _ _ c.loop-k.invariant (omega arith) _ (addend-most (OPPOSITE-type (number g.row.OPPOSITE)) _ _ word))

pub loop-k-preserved : goal.loop-k-preserved
loop-k-preserved g c =
    zipped_next (λ x y. x + c.args.a * addend_of (OPPOSITE-type (number g.row.OPPOSITE)) c.args.q y) _ _ _ _ c.requires.same c.loop-k.invariant _ (omega arith)
    (rw c.addend-y.ensures at c.more.ensures)
