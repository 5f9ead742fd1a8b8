use Rattle.std.proofs.Common.{refl}
use Rattle.scheme.specs.Checks.{first_in}
use Rattle.check_order.proofs.Answers.{only_size, refused, served, handed_on}
use Rattle.key_switch_parameters.proofs.LweKeySwitchingParameters.try_new.Goals as goal

pub returns-in_err-judge : goal.returns-in_err-judge
unfolding first_in
returns-in_err-judge c =
    rw (handed_on _ c.from_residual.ensures.1) (refused _ _ _ (only_size _ _ _ c.in_err-judge.ensures c.sizes.ensures refl))

pub returns : goal.returns
unfolding first_in
returns c = served _ _ _ (only_size _ _ _ c.in_ok-judge.ensures c.sizes.ensures refl) refl
