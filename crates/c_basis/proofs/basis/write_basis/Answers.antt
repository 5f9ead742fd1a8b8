use Rattle.std.proofs.Common.{length, sym, ap, ◌∙◌}
use Rattle.scheme.proofs.Order.{done}
use Rattle.check_order.proofs.Answers.{unwritten, handed_on}
use Rattle.c_basis.specs.Bases.{constants}
use Rattle.c_basis.proofs.Outputs.{fits, threshold_given, threshold_is}
use Rattle.c_basis.proofs.basis.write_basis.Goals as goal

pub returns-in_err-sizes_refusal : goal.returns-in_err-sizes_refusal
returns-in_err-sizes_refusal c = rw (handed_on _ c.from_residual.ensures.1) (record { writes = unwritten _ c.in_err-sizes_refusal.ensures })

pub returns-in_err-threshold : goal.returns-in_err-threshold
returns-in_err-threshold c =
    absurd (threshold_given c.args.basis (length c.args.out.now) 6 (sym c.in_ok-sizes_refusal.ensures) _ c.in_err-threshold.ensures)

pub copy_from_slice-requires : goal.copy_from_slice-requires
copy_from_slice-requires c =
    fits c.args.basis (length c.args.out.now) 6 (sym c.in_ok-sizes_refusal.ensures) ∙ sym (ap length c.constants.ensures)

pub returns : goal.returns
returns c =
    let named = ap (constants c.args.basis) (threshold_is c.args.basis _ c.in_ok-threshold.ensures) in
    record { writes = done (sym c.in_ok-sizes_refusal.ensures) (c.copy_from_slice.ensures.after ∙ c.constants.ensures ∙ named) }
