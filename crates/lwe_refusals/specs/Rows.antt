-- What a call on one ciphertext is judged by.
use Rattle.std.specs.Prelude.{List, [], ◌∷◌, ◌++◌, ℕ, ◌+◌, length}
use Rattle.scheme.specs.Lwe.{Key, key_length, Errors, error_count, error_values}
use Rattle.scheme.specs.Checks.{Check, row, length_fails, word_fails, words_fail, key_fails}
use Rattle.scheme.specs.Checks.{error_words_fail, errors_fail, message_fails}
use Rattle.primus_reduce.specs.Ring.{size_of}
use Rattle.primus_reduce.specs.declared.modulus.Modulus.{Modulus}
use Rattle.lwe_parameters.specs.declared.parameter.LweEncryptionParameters.{LweEncryptionParameters}
use Rattle.lwe_parameters.specs.declared.parameter.LwePhaseParameters.{LwePhaseParameters}
use Rattle.lwe_parameters.specs.declared.parameter.LweDecryptionParameters.{LweDecryptionParameters}
use Rattle.lwe_parameters.specs.declared.parameter.LweParameters.{LweParameters}
use Rattle.lwe_parameters.specs.Answers.{phase_parameters_rows, decryption_parameters_rows, encryption_parameters_rows, parameters_rows}

-- an encryption of p with mask a and the lent errors es into `room` words
abbrev pub encrypt_rows : LweEncryptionParameters → Key → List ℕ → Errors → ℕ → ℕ → List Check
encrypt_rows P key a es p room =
    encryption_parameters_rows P
    ++ row (length_fails (key_length key) P.dimension.0) 9
    ∷ row (length_fails room (P.dimension.0 + 1)) 11
    ∷ row (length_fails (length a) P.dimension.0) 12
    ∷ row (length_fails (error_count es) 1) 12
    ∷ row (error_words_fail (size_of P.modulus) es) 14
    ∷ row (word_fails (size_of P.modulus) p) 14
    ∷ row (key_fails (size_of P.modulus) key) 14
    ∷ row (words_fail (size_of P.modulus) a) 14
    ∷ row (errors_fail P.error_limit (error_values (size_of P.modulus) es)) 15
    ∷ []

-- what a phase and a decryption of the ciphertext x are judged by besides their parameters
abbrev pub ciphertext_rows : Modulus → ℕ → Key → List ℕ → List Check
ciphertext_rows m n key x =
    row (length_fails (key_length key) n) 9
    ∷ row (length_fails (length x) (n + 1)) 10
    ∷ row (key_fails (size_of m) key) 14
    ∷ row (words_fail (size_of m) x) 14
    ∷ []

abbrev pub phase_rows : LwePhaseParameters → Key → List ℕ → List Check
phase_rows P key x = phase_parameters_rows P ++ ciphertext_rows P.modulus P.dimension.0 key x

abbrev pub decrypt_rows : LweDecryptionParameters → Key → List ℕ → List Check
decrypt_rows P key x = decryption_parameters_rows P ++ ciphertext_rows P.modulus P.dimension.0 key x

-- an encryption of the message x below t
abbrev pub message_rows : LweParameters → Key → List ℕ → Errors → ℕ → ℕ → List Check
message_rows P key a es x room =
    parameters_rows P
    ++ row (length_fails (key_length key) P.dimension.0) 9
    ∷ row (length_fails room (P.dimension.0 + 1)) 11
    ∷ row (length_fails (length a) P.dimension.0) 12
    ∷ row (length_fails (error_count es) 1) 12
    ∷ row (error_words_fail (size_of P.modulus) es) 14
    ∷ row (key_fails (size_of P.modulus) key) 14
    ∷ row (words_fail (size_of P.modulus) a) 14
    ∷ row (errors_fail P.error_limit (error_values (size_of P.modulus) es)) 15
    ∷ row (message_fails P.plaintext_modulus x) 16
    ∷ []
