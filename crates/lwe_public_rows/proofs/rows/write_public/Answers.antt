use mathlib.Core.Path.{◌≡◌}
use borrow.Author.Rules.{rules}
use native.Mathlib.Omega.{arith}
use lib.IntN.{pos}
use lib.ListN.{length, get_or}
use mir.Syntax.{w32}
use mir.Val.{SFits}
use Rattle.std.proofs.lemmas.Int.{to_z-of_z}
use Rattle.scheme.specs.Lwe.{signed}
use Rattle.scheme.proofs.Public.{upto_end}
use Rattle.primus_reduce.specs.Ring.{size_of}
use Rattle.lwe_errors.specs.Errors.{errors_in}
use Rattle.lwe_public_rows.proofs.Laws.{public_start, public_same, public_below, public_next}
use Rattle.lwe_public_rows.proofs.rows.write_public.Goals as goal

pub loop-i-init : goal.loop-i-init
loop-i-init c = public_start _ _ _ _ _ _ c.args.ring.positive c.requires c.args.plaintext _ c.start.ensures

pub add_multiple-requires : goal.add_multiple-requires
add_multiple-requires c =
    let fits : SFits w32 (get_or c.args.coefficients.now c.loop-i.i (pos 0)) = search rules in (
      public_same _ _ _ _ _ _ c.args.ring.positive c.requires c.args.plaintext c.loop-i.i c.loop-i.out c.loop-i.invariant c.loop-i-test.true,
      rw to_z-of_z (c.requires.small c.loop-i.i c.loop-i-test.true),
      public_below _ _ _ _ _ _ c.args.ring.positive c.requires c.args.plaintext c.loop-i.i c.loop-i.out c.loop-i.invariant c.loop-i-test.true,
    )

pub loop-i-preserved : goal.loop-i-preserved
loop-i-preserved c =
    let fits : SFits w32 (get_or c.args.coefficients.now c.loop-i.i (pos 0)) = search rules in
    public_next _ _ _ _ _ _ c.args.ring.positive c.requires c.args.plaintext c.loop-i.i c.loop-i.out c.loop-i.invariant c.loop-i-test.true _ (simp to_z-of_z at c.add_multiple.ensures)

pub returns : goal.returns
returns c =
    let e : c.loop-i.i ≡ length c.args.coefficients.now = omega arith in
    upto_end (size_of c.args.ring.modulus) c.args.ring.positive (length c.args.coefficients.now) c.args.key.now (errors_in c.args.ring.modulus c.args.errors) (pos c.args.plaintext) (signed c.args.coefficients.now) c.loop-i.out
    (rw e at c.loop-i.invariant)
