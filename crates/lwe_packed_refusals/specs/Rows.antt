-- What each call on a packed ciphertext is judged by.
use Rattle.std.specs.Prelude.{List, [], ◌∷◌, ◌++◌, ℕ, ◌+◌, ◌-◌, Option, length}
use Rattle.scheme.specs.Lwe.{Errors, error_count, error_values}
use Rattle.scheme.specs.Checks.{Check, row, length_fails, count_fails, packed_fails, words_fail}
use Rattle.scheme.specs.Checks.{error_words_fail, errors_fail, messages_fail}
use Rattle.primus_reduce.specs.Ring.{size_of}
use Rattle.lwe_parameters.specs.declared.parameter.LweEncryptionParameters.{LweEncryptionParameters}
use Rattle.lwe_parameters.specs.declared.parameter.LweParameters.{LweParameters}
use Rattle.lwe_parameters.specs.declared.parameter.LwePhaseParameters.{LwePhaseParameters}
use Rattle.lwe_parameters.specs.declared.parameter.LweDecryptionParameters.{LweDecryptionParameters}
use Rattle.lwe_parameters.specs.Answers.{phase_parameters_rows, decryption_parameters_rows, encryption_parameters_rows, parameters_rows, judged_rows}

-- a packed encryption of the words ps under the words s, with mask a and an error for each, into `room` words
abbrev pub packed_rows : LweEncryptionParameters → List ℕ → List ℕ → Errors → List ℕ → ℕ → List Check
packed_rows P s a es ps room =
    encryption_parameters_rows P
    ++ row (length_fails (length s) P.dimension.0) 9
    ∷ row (count_fails (length ps) P.dimension.0) 10
    ∷ row (length_fails room (P.dimension.0 + length ps)) 11
    ∷ row (length_fails (length a) P.dimension.0) 12
    ∷ row (length_fails (error_count es) (length ps)) 12
    ∷ row (error_words_fail (size_of P.modulus) es) 14
    ∷ row (words_fail (size_of P.modulus) s) 14
    ∷ row (words_fail (size_of P.modulus) a) 14
    ∷ row (words_fail (size_of P.modulus) ps) 14
    ∷ row (errors_fail P.error_limit (error_values (size_of P.modulus) es)) 15
    ∷ []

-- of the messages xs below t
abbrev pub packed_message_rows : LweParameters → List ℕ → List ℕ → Errors → List ℕ → ℕ → List Check
packed_message_rows P s a es xs room =
    parameters_rows P
    ++ row (length_fails (length s) P.dimension.0) 9
    ∷ row (count_fails (length xs) P.dimension.0) 10
    ∷ row (length_fails room (P.dimension.0 + length xs)) 11
    ∷ row (length_fails (length a) P.dimension.0) 12
    ∷ row (length_fails (error_count es) (length xs)) 12
    ∷ row (error_words_fail (size_of P.modulus) es) 14
    ∷ row (words_fail (size_of P.modulus) s) 14
    ∷ row (words_fail (size_of P.modulus) a) 14
    ∷ row (errors_fail P.error_limit (error_values (size_of P.modulus) es)) 15
    ∷ row (messages_fail P.plaintext_modulus xs) 16
    ∷ []

-- the phases of the packed ciphertext x under the words s
abbrev pub packed_phase_rows : LwePhaseParameters → List ℕ → List ℕ → ℕ → List Check
packed_phase_rows P s x room =
    phase_parameters_rows P
    ++ row (length_fails (length s) P.dimension.0) 9
    ∷ row (packed_fails (length x) P.dimension.0) 10
    ∷ row (length_fails room (length x - P.dimension.0)) 11
    ∷ row (words_fail (size_of P.modulus) s) 14
    ∷ row (words_fail (size_of P.modulus) x) 14
    ∷ []

-- its messages
abbrev pub packed_decrypt_rows : LweDecryptionParameters → List ℕ → List ℕ → ℕ → List Check
packed_decrypt_rows P s x room =
    decryption_parameters_rows P
    ++ row (length_fails (length s) P.dimension.0) 9
    ∷ row (packed_fails (length x) P.dimension.0) 10
    ∷ row (length_fails room (length x - P.dimension.0)) 11
    ∷ row (words_fail (size_of P.modulus) s) 14
    ∷ row (words_fail (size_of P.modulus) x) 14
    ∷ []

-- for the steps, and no part of a promise: an opening that may take a plaintext modulus
abbrev pub packed_opening_rows : Option ℕ → LwePhaseParameters → List ℕ → List ℕ → ℕ → List Check
packed_opening_rows t P s x room =
    judged_rows t P
    ++ row (length_fails (length s) P.dimension.0) 9
    ∷ row (packed_fails (length x) P.dimension.0) 10
    ∷ row (length_fails room (length x - P.dimension.0)) 11
    ∷ row (words_fail (size_of P.modulus) s) 14
    ∷ row (words_fail (size_of P.modulus) x) 14
    ∷ []
