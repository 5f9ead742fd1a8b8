-- What the checks of a length leave: every length is a word.
-- Assumes nothing.
use mathlib.Core.Path.{◌≡◌, sym}
use mathlib.Core.List.{[], append-nil}
use Prim.Native.Nat.{ℕ, ◌+◌, ◌*◌, ◌/◌, ◌≤◌}
use native.Mathlib.Nat.{mul-le-mul, div-le_self}
use native.Mathlib.Omega.{arith}
use borrow.Author.Tests.{ltb-false}
use Rattle.scheme.specs.Modulus.{bits}
use Rattle.scheme.specs.Checks.{refusal}
use Rattle.scheme.proofs.Modulus.{bits_most}
use Rattle.scheme.proofs.Checks.{dimension_ok, levels_ok}
use Rattle.scheme.proofs.Order.{passed}
use Rattle.primus_reduce.specs.Ring.{meant}
use Rattle.key_switch_parameters.specs.declared.LweKeySwitchingParameters.{LweKeySwitchingParameters}
use Rattle.key_switch_parameters.specs.Answers.{n_in, m_in, levels_in, parameter_rows}
use Rattle.key_switch_parameters.proofs.Passed.{judged}
use Rattle.c_numbers.specs.Lengths.{dimension_rows, packed_rows}

module _ (n : ℕ) (e : 0 ≡ refusal (dimension_rows n)) where
  pub row_few : n + 1 ≤ 2049
  row_few = let d : (1 ≤ n) × (n ≤ 2048) = dimension_ok n (passed (dimension_rows n) (sym e) 6 tt) in omega (arith, d.1)

  pub square_few : n * (n + 1) ≤ 2048 * 2049
  square_few = mul-le-mul {n₁ = n} {m₁ = n + 1} {n₂ = 2048} {m₂ = 2049} (omega (arith, row_few)) row_few

pub packed_few : (n count : ℕ) → 0 ≡ refusal (packed_rows n count) → n + count ≤ 4096
packed_few n count e =
    let no = passed (packed_rows n count) (sym e) in
    let d : (1 ≤ n) × (n ≤ 2048) = dimension_ok n (no 6 tt) in
    let b : count ≤ n = ltb-false n count (no 10 tt) in
    omega (arith, d.1, b)

module _ (P : LweKeySwitchingParameters) (e : 0 ≡ refusal (parameter_rows P)) where
  pub entries_few : n_in P * levels_in P ≤ 2048 * 32
  entries_few =
      let no = passed (parameter_rows P) (sym e) in
      let k = bits 32 (meant P.basis.modulus) in
      let l : (1 ≤ levels_in P) × (levels_in P ≤ k / P.basis.log_basis.0) = levels_ok k P.basis.log_basis.0 (levels_in P) (no 5 tt) in
      let few : levels_in P ≤ 32 = omega (arith, l.1, div-le_self k P.basis.log_basis.0, bits_most 32 (meant P.basis.modulus)) in
      mul-le-mul {n₁ = n_in P} {m₁ = levels_in P} {n₂ = 2048} {m₂ = 32} (judged P [] (rw (append-nil (parameter_rows P)) (sym e))).input_most few

  pub entry_few : m_in P + 1 ≤ 2049
  entry_few = let j = judged P [] (rw (append-nil (parameter_rows P)) (sym e)) in omega (arith, j.output_most)

  pub key_few : n_in P * levels_in P * (m_in P + 1) ≤ 2048 * 32 * 2049
  key_few = mul-le-mul {n₁ = n_in P * levels_in P} {m₁ = m_in P + 1} {n₂ = 2048 * 32} {m₂ = 2049} entries_few entry_few
