use Rattle.std.proofs.Common.{refl, ◌∙◌, to_z-of_z, w64, rules}
use Rattle.gadget_constants.proofs.Constants.{init_ready}
use Rattle.gadget_constants.proofs.Signs.{read_is}
use Rattle.gadget_constants.proofs.word.read.Goals as goal

pub returns : goal.returns
returns c =
    read_is c.args.p c.requires.0 c.args.a c.init_value_carry-s.result (c.init_value_carry-s.ensures ∙ init_ready c.args.p c.requires.0 c.args.a c.requires.1) c.error_bound-bound.result c.power.result _ c.lifted_by-lost.result
    c.error_bound-bound.ensures c.power.ensures refl (rw c.size.ensures.0 at c.lifted_by-lost.ensures) _ _
    (to_z-of_z {w = w64} (search rules) ∙ c.minus.ensures) (to_z-of_z {w = w64} (search rules) ∙ c.minus-2.ensures)
