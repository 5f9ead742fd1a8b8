use Rattle.check_order.proofs.Answers.{first_size, first_value, handed_on}
use Rattle.lwe_packed_refusals.proofs.Laws.{opening_sizes, opening_values}
use Rattle.lwe_packed_refusals.proofs.opening.opening_refusal.Goals as goal

pub returns-in_err-judge : goal.returns-in_err-judge
returns-in_err-judge c =
    rw (handed_on _ c.from_residual.ensures.1)
    (first_size _ _ _ c.in_err-judge.ensures (rw (c.differs.ensures, c.packed_refused.ensures, c.get.ensures, c.output_differs.ensures) (opening_sizes _ _ _ _ _ _ c.sizes_with-s.ensures)))

pub returns : goal.returns
returns c =
    first_value _ _ _ _ c.in_ok-judge.ensures (rw (c.differs.ensures, c.packed_refused.ensures, c.get.ensures, c.output_differs.ensures) (opening_sizes _ _ _ _ _ _ c.sizes_with-s.ensures))
    c.judge-2.ensures (let none = c.default-v.ensures in rw (none.1.0, none.1.1.0, none.1.1.1, c.both_refused.ensures) (opening_values _ _ _ _ _))
