use Rattle.std.proofs.Common.{rules, refl}
use Rattle.scheme.specs.Checks.{first_in}
use Rattle.check_order.proofs.Answers.{only_size}
use Rattle.key_switch_key.proofs.key.entry_refusal.Goals as goal

pub returns : goal.returns
unfolding first_in
returns c = only_size _ _ _ c.judge.ensures (search rules) refl
