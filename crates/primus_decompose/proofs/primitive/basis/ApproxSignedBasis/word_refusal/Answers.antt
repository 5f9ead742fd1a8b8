use Rattle.std.proofs.Common.{rules}
use Rattle.check_order.proofs.Answers.{first_size, first_value, handed_on}
use Rattle.primus_decompose.specs.Answers.{word_rows}
use Rattle.primus_decompose.proofs.primitive.basis.ApproxSignedBasis.word_refusal.Goals as goal

pub returns-in_err-judge : goal.returns-in_err-judge
returns-in_err-judge c = rw (handed_on _ c.from_residual.ensures.1) (first_size (word_rows c.args.self c.args.value) _ _ c.in_err-judge.ensures (search rules))

pub returns : goal.returns
returns c = first_value (word_rows c.args.self c.args.value) _ _ _ c.in_ok-judge.ensures (search rules) c.judge-2.ensures (search rules)
