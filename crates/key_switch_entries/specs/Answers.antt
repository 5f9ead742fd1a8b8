-- What the generation of a key is judged by and writes, and what writing its entries asks.
use Rattle.std.specs.Prelude.{◌≡◌, List, [], ◌∷◌, ◌++◌, ℕ, ◌*◌, length}
use Rattle.scheme.specs.Lwe.{Key, key_length, secret_of, words, Errors, error_count, error_values, error_at}
use Rattle.scheme.specs.Switch.{generated}
use Rattle.scheme.specs.Checks.{Check, row, refusal, length_fails}
use Rattle.scheme.specs.Checks.{error_limit_fails, words_fail, key_fails, error_words_fail, errors_fail}
use Rattle.primus_decompose.specs.Answers.{basis, rows}
use Rattle.key_switch_parameters.specs.declared.LweKeySwitchingParameters.{LweKeySwitchingParameters}
use Rattle.key_switch_parameters.specs.Answers.{q_in, n_in, m_in, levels_in, parameter_rows, key_words}

-- a key from the secret `key` to the secret s', with lent masks and errors within ±E, into `room` words
abbrev pub generate_rows : LweKeySwitchingParameters → ℕ → Key → List ℕ → List ℕ → Errors → ℕ → List Check
generate_rows P E key s' masks errors room =
    parameter_rows P
    ++ row (length_fails (key_length key) (n_in P)) 9
    ∷ row (length_fails (length s') (m_in P)) 9
    ∷ row (length_fails room (key_words P)) 11
    ∷ row (length_fails (length masks) (n_in P * levels_in P * m_in P)) 12
    ∷ row (length_fails (error_count errors) (n_in P * levels_in P)) 12
    ∷ row (error_limit_fails (q_in P) E) 13
    ∷ row (error_words_fail (q_in P) errors) 14
    ∷ row (key_fails (q_in P) key) 14
    ∷ row (words_fail (q_in P) s') 14
    ∷ row (words_fail (q_in P) masks) 14
    ∷ row (errors_fail E (error_values (q_in P) errors)) 15
    ∷ []

-- "Entry (i, j) encrypts sᵢ × weight j under the output key. Masks and errors are lent in entry order"
abbrev pub generated_for : LweKeySwitchingParameters → Key → List ℕ → Errors → List ℕ → List ℕ
generated_for P key s' errors masks =
    generated (basis P.basis) (n_in P) (m_in P) (secret_of key) (words s') (error_at (q_in P) errors) masks

-- what writing the entries asks
pub record Generable (P : LweKeySwitchingParameters) (masks : List ℕ) (errors : Errors) (room : ℕ) : Type 0 where
  pub accepted : refusal (rows P.basis) ≡ 0
  pub fits : room ≡ key_words P
  pub masked : length masks ≡ n_in P * levels_in P * m_in P
  pub errored : error_count errors ≡ n_in P * levels_in P
