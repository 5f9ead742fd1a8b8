-- What parameters are judged by, and what their calls promise.
use Rattle.std.specs.Prelude.{List, [], ◌∷◌, ◌++◌, ℕ, ◌+◌, ◌*◌, Result}
use Rattle.scheme.specs.Checks.{Check, row, dimension_fails}
use Rattle.check_order.specs.declared.refusal.Refusal.{Refusal}
use Rattle.check_order.specs.Answer.{answer}
use Rattle.primus_reduce.specs.Ring.{size_of}
use Rattle.primus_reduce.specs.declared.modulus.Modulus.{Modulus}
use Rattle.primus_decompose.specs.Answers.{rows, basis_with}
use Rattle.key_switch_parameters.specs.declared.LweKeySwitchingParameters.{LweKeySwitchingParameters}

-- q, n, m and L
abbrev pub q_in : LweKeySwitchingParameters → ℕ
q_in P = size_of P.basis.modulus

abbrev pub n_in : LweKeySwitchingParameters → ℕ
n_in P = P.input_dimension.0

abbrev pub m_in : LweKeySwitchingParameters → ℕ
m_in P = P.output_dimension.0

abbrev pub levels_in : LweKeySwitchingParameters → ℕ
levels_in P = P.basis.level_count.0

-- the basis judges 1 to 3, 5, and n and m 6
abbrev pub parameter_rows : LweKeySwitchingParameters → List Check
parameter_rows P = rows P.basis ++ row (dimension_fails (n_in P)) 6 ∷ row (dimension_fails (m_in P)) 6 ∷ []

abbrev pub parameters_answer : LweKeySwitchingParameters → Result LweKeySwitchingParameters Refusal
parameters_answer P = answer (parameter_rows P) P

-- of plain numbers: q, base log, levels (0: left open), n and m
abbrev pub parameters_with : Modulus → ℕ → ℕ → ℕ → ℕ → LweKeySwitchingParameters
parameters_with q log levels n m =
    record {
      basis = basis_with q log levels;
      input_dimension = record { 0 = n };
      output_dimension = record { 0 = m };
    }

-- "The key holds, for mask place i and level j, an entry of m + 1 words": all its words
abbrev pub key_words : LweKeySwitchingParameters → ℕ
key_words P = n_in P * levels_in P * (m_in P + 1)
