use Rattle.std.proofs.Common.{sym}
use Rattle.check_order.proofs.Answers.{handed_on, unwritten}
use Rattle.scheme.proofs.Order as O
use Rattle.key_switch.proofs.Passed.{batch_passed}
use Rattle.key_switch.proofs.batch.key_switch_batch_to.Goals as goal

pub returns-in_err-batch_refusal : goal.returns-in_err-batch_refusal
returns-in_err-batch_refusal c =
    let told = c.in_err-batch_refusal.ensures in rw (handed_on _ c.from_residual.ensures.1) (record { writes = unwritten _ told; keeps = unwritten _ told })

pub switch_judged-requires : goal.switch_judged-requires
switch_judged-requires c = rw (c.batch_count-count.ensures, c.get.ensures) (batch_passed c.args.tags.now c.in_ok-batch_refusal.ensures)

pub returns : goal.returns
returns c =
    let told = c.in_ok-batch_refusal.ensures in
    record {
      writes = O.done (sym told) (rw (c.batch_count-count.ensures, c.get.ensures) at c.switch_judged.ensures);
      keeps = O.done (sym told) c.without_tallies.ensures;
    }
