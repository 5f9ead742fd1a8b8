use Rattle.std.proofs.Common.{rules}
use Rattle.check_order.proofs.Answers.{handed_on}
use Rattle.primus_encoding.proofs.Laws.{valued_first}
use Rattle.primus_encoding.proofs.rounded.RoundedCodec.judge_slice.Goals as goal

pub returns-in_err-judge-clause-first : goal.returns-in_err-judge-clause-first
returns-in_err-judge-clause-first c =
    rw (handed_on _ c.from_residual-in_err-judge.ensures.1)
    (valued_first _ _ c.args.input.now c.args.held.now c.args.coding c.length_differs-differs.ensures _ _ c.in_ok-moduli.ensures.first c.in_err-judge.ensures (search rules))

pub returns-clause-first : goal.returns-clause-first
returns-clause-first c =
    valued_first _ _ c.args.input.now c.args.held.now c.args.coding c.length_differs-differs.ensures _ _ c.in_ok-moduli.ensures.first c.in_ok-judge.ensures (search rules)
