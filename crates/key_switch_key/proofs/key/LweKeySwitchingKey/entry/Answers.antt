use Rattle.std.proofs.Common.{arith}
use Rattle.check_order.proofs.Answers.{refused, handed_on}
use Rattle.key_switch_key.proofs.Passed.{entry_none, entry_within, entry_some}
use Rattle.key_switch_key.proofs.key.LweKeySwitchingKey.entry.Goals as goal

pub returns-in_err-entry_refusal : goal.returns-in_err-entry_refusal
returns-in_err-entry_refusal c =
    rw (handed_on _ c.from_residual.ensures.1) (refused _ _ _ c.in_err-entry_refusal.ensures)

pub returns-then-get-i : goal.returns-then-get-i
returns-then-get-i c = entry_none c.args.params _ c.args.i c.args.j c.in_ok-entry_refusal.ensures c.get.ensures c.level_count-levels.ensures c.if-get-i.true

pub overflow_add-width : goal.overflow_add-width
overflow_add-width c =
    omega (arith, entry_within c.args.params _ c.args.i c.args.j c.in_ok-entry_refusal.ensures c.get.ensures c.level_count-levels.ensures c.if-get-i.false c.get-width.ensures)

pub overflow_mul-result : goal.overflow_mul-result
overflow_mul-result c =
    omega (arith, entry_within c.args.params _ c.args.i c.args.j c.in_ok-entry_refusal.ensures c.get.ensures c.level_count-levels.ensures c.if-get-i.false c.get-width.ensures)

pub overflow_add-result : goal.overflow_add-result
overflow_add-result c =
    omega (arith, entry_within c.args.params _ c.args.i c.args.j c.in_ok-entry_refusal.ensures c.get.ensures c.level_count-levels.ensures c.if-get-i.false c.get-width.ensures)

pub overflow_mul-result-2 : goal.overflow_mul-result-2
overflow_mul-result-2 c =
    omega (arith, entry_within c.args.params _ c.args.i c.args.j c.in_ok-entry_refusal.ensures c.get.ensures c.level_count-levels.ensures c.if-get-i.false c.get-width.ensures)

pub returns : goal.returns
returns c = entry_some c.args.params _ c.args.i c.args.j c.in_ok-entry_refusal.ensures c.get.ensures c.level_count-levels.ensures c.if-get-i.false c.get-width.ensures
