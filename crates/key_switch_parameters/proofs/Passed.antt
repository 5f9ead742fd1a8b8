-- What the checks of parameters leave.
-- Assumes nothing.
use mathlib.Core.Path.{◌≡◌}
use mathlib.Core.List.{List, ◌++◌}
use Prim.Native.Nat.{◌≤◌}
use Rattle.scheme.specs.Checks.{Check, refusal, dimension_fails}
use Rattle.scheme.proofs.Checks.{dimension_ok}
use Rattle.scheme.proofs.Order.{passed, passed_part, neither}
use Rattle.primus_decompose.specs.Answers.{rows}
use Rattle.key_switch_parameters.specs.declared.LweKeySwitchingParameters.{LweKeySwitchingParameters}
use Rattle.key_switch_parameters.specs.Answers.{n_in, m_in, parameter_rows}

pub record Judged (P : LweKeySwitchingParameters) : Type 0 where
  pub accepted : refusal (rows P.basis) ≡ 0
  pub input_some : 1 ≤ n_in P
  pub input_most : n_in P ≤ 2048
  pub output_some : 1 ≤ m_in P
  pub output_most : m_in P ≤ 2048

-- what 1 to 3, 5, 6 leave, of a call that judges more besides
pub judged : (P : LweKeySwitchingParameters) (more : List Check) → refusal (parameter_rows P ++ more) ≡ 0 → Judged P
judged P more e =
    let z : refusal (parameter_rows P) ≡ 0 = passed_part (parameter_rows P) more e in
    let six = neither (dimension_fails (n_in P)) (dimension_fails (m_in P)) (passed (parameter_rows P) z 6 tt) in
    let n = dimension_ok (n_in P) six.0 in
    let m = dimension_ok (m_in P) six.1 in
    record { accepted = passed_part (rows P.basis) _ z; input_some = n.0; input_most = n.1; output_some = m.0; output_most = m.1 }
