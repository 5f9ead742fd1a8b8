use Rattle.std.proofs.Common.{length, sym, ◌∙◌}
use Rattle.check_order.proofs.Answers.{handed_on}
use Rattle.lwe_tag.proofs.Writes.{refused, done}
use Rattle.scheme.proofs.Checks.{length_ok}
use Rattle.scheme.proofs.Order.{passed}
use Rattle.scheme.proofs.Switch.{one_switch}
use Rattle.key_switch.proofs.Passed.{one_passed}
use Rattle.key_switch.proofs.key_switch_to.Goals as goal

pub returns-in_err-switch_refusal : goal.returns-in_err-switch_refusal
returns-in_err-switch_refusal c = rw (handed_on _ c.from_residual.ensures.1) (record { writes = refused c.in_err-switch_refusal.ensures })

pub switch_judged-requires : goal.switch_judged-requires
switch_judged-requires c = one_passed c.args.tag c.in_ok-switch_refusal.ensures

pub returns : goal.returns
returns c =
    let told = c.in_ok-switch_refusal.ensures in
    record { writes = done told c.without_tally.ensures (c.switch_judged.ensures ∙ one_switch _ _ _ _ _ (length_ok (length c.args.input.now) _ (passed _ (sym told) 10 tt))) }
