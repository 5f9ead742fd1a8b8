-- What the kinds stand for.
use Rattle.std.specs.Prelude.{List, [], ◌∷◌, ℕ, eqb, Option, None, Some, Result}
use Rattle.scheme.specs.Numbers.{pick}
use Rattle.scheme.specs.Modulus as S
use Rattle.scheme.specs.Basis as B
use Rattle.scheme.specs.Checks.{Check, row, base_log_fails}
use Rattle.primus_reduce.specs.Ring.{meant}
use Rattle.primus_reduce.specs.declared.modulus.Modulus.{Modulus}
use Rattle.check_order.specs.Answer.{answer}
use Rattle.check_order.specs.declared.refusal.Refusal.{Refusal}
use Rattle.gadget_parameters.specs.declared.DecompositionBaseLog.{DecompositionBaseLog}
use Rattle.gadget_parameters.specs.declared.DecompositionLevelCount.{DecompositionLevelCount}

-- a base log judges 1
abbrev pub base_log_rows : ℕ → List Check
base_log_rows b = row (base_log_fails 32 b) 1 ∷ []

abbrev pub base_log_answer : ℕ → Result DecompositionBaseLog Refusal
base_log_answer b = answer (base_log_rows b) (record { 0 = b })

-- levels given, or left open
abbrev pub meant_levels : Option DecompositionLevelCount → B.Levels
meant_levels None = B.left_open
meant_levels (Some n) = B.given n.0

-- levels as a number, 0 where they are left open
abbrev pub levels_for : ℕ → Option DecompositionLevelCount
levels_for n = pick (eqb n 0) None (Some (record { 0 = n }))

-- L
abbrev pub level_count_of : Modulus → ℕ → Option DecompositionLevelCount → ℕ
level_count_of m b l = B.levels_of (S.bits 32 (meant m)) b (meant_levels l)
