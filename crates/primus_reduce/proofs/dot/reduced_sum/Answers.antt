use Rattle.std.proofs.Common.{◌%◌, sym, ap, ◌∙◌}
use Rattle.reduce_words.proofs.Laws.{power_wraps}
use Rattle.primus_reduce.proofs.dot.reduced_sum.Goals as goal

pub returns-then-is_power : goal.returns-then-is_power
returns-then-is_power g c =
    c.reduce.ensures
    ∙ ap (λ x. x % c.args.d.q) c.wrapping_sum.ensures
    ∙ power_wraps 32 _ _ (sym c.if-is_power.true ∙ c.is_power.ensures)
