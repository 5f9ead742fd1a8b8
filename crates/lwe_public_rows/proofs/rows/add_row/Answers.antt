use borrow.Author.Rules.{rules}
use native.Mathlib.Omega.{arith}
use mir.Syntax.{w32}
use mir.Val.{SFits}
use Rattle.std.proofs.lemmas.Int.{to_z-of_z}
use Rattle.primus_reduce.specs.Ring.{size_of}
use Rattle.lwe_public_rows.specs.Public.{plus_times}
use Rattle.lwe_public_rows.proofs.Laws.{is_zip}
use Rattle.lwe_public_rows.proofs.rows.add_row.Goals as goal

pub returns : goal.returns
returns c =
    let fits : SFits w32 c.args.r = search rules in
    is_zip (plus_times (size_of c.args.ring.modulus) c.args.r) _ _ _ c.requires.0 c.loop-k.auto.out (λ j h. simp to_z-of_z at (c.loop-k.invariant.0 j (omega arith)))
