use Rattle.std.proofs.Common.{ap, ◌∙◌, arith, rules, ltb, pos, to_z-of_z, w64}
use Rattle.scheme.specs.Numbers.{pick}
use Rattle.gadget_digits.specs.Step.{step_of}
use Rattle.gadget_digits.proofs.Columns.{after_next}
use Rattle.primus_decompose.specs.Answers.{signed_digit}
use Rattle.readings_digits.specs.Digits.{stepped_digit}
use Rattle.std.proofs.lemmas.Grind.{common_steps}
use Rattle.readings_digits.proofs.Numbers.{store_next}
use Rattle.readings_digits.proofs.of_steps.Goals as goal

pub loop-j-preserved : goal.loop-j-preserved
loop-j-preserved c = (
  grind (arith, common_steps),
  grind (arith, common_steps, after_next),
  store_next c.loop-j.digit-items (stepped_digit c.args.b c.args.start) c.loop-j.j _ (omega arith)
      (to_z-of_z {w = w64} (search rules) ∙ c.shown.ensures
      ∙ ap (λ w. pick (ltb c.loop-j.j c.args.b.level_count.0) (signed_digit c.args.b w) (pos 0))
      (ap (λ x. x.digit) c.step-s.ensures ∙ ap (λ x. (step_of x).digit) c.loop-j.invariant.1))
      c.loop-j.invariant.2,
)
