-- What each call on a batch is judged by.
use Rattle.std.specs.Prelude.{List, [], ◌∷◌, ◌++◌, ℕ, ◌+◌, ◌*◌, ◌/◌, length}
use Rattle.scheme.specs.Lwe.{Key, key_length, Errors, error_count, error_values}
use Rattle.scheme.specs.Checks.{Check, row, length_fails, batch_fails, words_fail, key_fails}
use Rattle.scheme.specs.Checks.{error_words_fail, errors_fail, messages_fail}
use Rattle.primus_reduce.specs.Ring.{size_of}
use Rattle.primus_reduce.specs.declared.modulus.Modulus.{Modulus}
use Rattle.lwe_parameters.specs.declared.parameter.LwePhaseParameters.{LwePhaseParameters}
use Rattle.lwe_parameters.specs.declared.parameter.LweDecryptionParameters.{LweDecryptionParameters}
use Rattle.lwe_parameters.specs.declared.parameter.LweParameters.{LweParameters}
use Rattle.lwe_parameters.specs.Answers.{phase_parameters_rows, decryption_parameters_rows, parameters_rows}

-- encryptions of the messages xs into `room` words
abbrev pub encrypt_batch_rows : LweParameters → Key → List ℕ → Errors → List ℕ → ℕ → List Check
encrypt_batch_rows P key masks es xs room =
    parameters_rows P
    ++ row (length_fails (key_length key) P.dimension.0) 9
    ∷ row (length_fails room (length xs * (P.dimension.0 + 1))) 11
    ∷ row (length_fails (length masks) (length xs * P.dimension.0)) 12
    ∷ row (length_fails (error_count es) (length xs)) 12
    ∷ row (error_words_fail (size_of P.modulus) es) 14
    ∷ row (key_fails (size_of P.modulus) key) 14
    ∷ row (words_fail (size_of P.modulus) masks) 14
    ∷ row (errors_fail P.error_limit (error_values (size_of P.modulus) es)) 15
    ∷ row (messages_fail P.plaintext_modulus xs) 16
    ∷ []

-- what phases and messages of the batch x into `room` words are judged by besides their parameters
abbrev pub batch_rows : Modulus → ℕ → Key → List ℕ → ℕ → List Check
batch_rows m n key x room =
    row (length_fails (key_length key) n) 9
    ∷ row (batch_fails (length x) n) 10
    ∷ row (length_fails room (length x / (n + 1))) 11
    ∷ row (key_fails (size_of m) key) 14
    ∷ row (words_fail (size_of m) x) 14
    ∷ []

abbrev pub phases_rows : LwePhaseParameters → Key → List ℕ → ℕ → List Check
phases_rows P key x room = phase_parameters_rows P ++ batch_rows P.modulus P.dimension.0 key x room

abbrev pub decrypt_batch_rows : LweDecryptionParameters → Key → List ℕ → ℕ → List Check
decrypt_batch_rows P key x room = decryption_parameters_rows P ++ batch_rows P.modulus P.dimension.0 key x room
