use Rattle.std.proofs.Common.{rules, length, sym, ap, ap₂, ◌∙◌, [], ◌∷◌, ℤ, w64}
use mir.Facts.{to_z-of_z}
use mir.Val.{SFits}
use Rattle.scheme.proofs.Order.{done}
use Rattle.check_order.proofs.Answers.{unwritten, handed_on}
use Rattle.gadget_constants.specs.declared.word.Reading.{Reading}
use Rattle.c_basis.proofs.Outputs.{fits, reading_sized, reading_refused, reading_given}
use Rattle.c_basis.proofs.basis.write_reading.Goals as goal

pub returns-in_err-sizes_refusal : goal.returns-in_err-sizes_refusal
returns-in_err-sizes_refusal c =
    rw (handed_on _ c.from_residual.ensures.1)
    (record { writes = unwritten _ (reading_sized c.args.basis c.args.word _ _ c.in_err-sizes_refusal.ensures) })

pub returns-in_err-x : goal.returns-in_err-x
returns-in_err-x c =
    rw (handed_on _ c.from_residual-in_err-x.ensures.1)
    (record { writes = unwritten _ (reading_refused c.args.basis c.args.word _ (sym c.in_ok-sizes_refusal.ensures) _ c.in_err-x.ensures) })

pub copy_from_slice-requires : goal.copy_from_slice-requires
copy_from_slice-requires c = fits c.args.basis (length c.args.out.now) 2 (sym c.in_ok-sizes_refusal.ensures)

pub returns : goal.returns
returns c =
    let g = reading_given c.args.basis c.args.word _ (sym c.in_ok-sizes_refusal.ensures) _ c.in_ok-x.ensures in
    let reading : SFits w64 c.in_ok-x.x.reading = search rules in
    let error : SFits w64 c.in_ok-x.x.error = search rules in
    let kept = ap₂ (λ (a b : ℤ). a ∷ b ∷ []) (to_z-of_z reading) (to_z-of_z error) in
    record { writes = done g.0 (c.copy_from_slice.ensures.after ∙ kept ∙ ap (λ (x : Reading). x.reading ∷ x.error ∷ []) g.1) }
