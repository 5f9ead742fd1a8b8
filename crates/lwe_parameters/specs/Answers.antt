-- What parameters are judged by, and what their constructors answer.
use Rattle.std.specs.Prelude.{ℕ, List, [], ◌∷◌, ◌++◌, Option, Some, None, Result}
use Rattle.scheme.specs.Checks.{Check, row, modulus_fails, dimension_fails, plaintext_fails, small_fails, error_limit_fails}
use Rattle.primus_reduce.specs.Ring.{meant, size_of}
use Rattle.check_order.specs.declared.refusal.Refusal.{Refusal}
use Rattle.check_order.specs.Answer.{answer}
use Rattle.lwe_parameters.specs.declared.parameter.LweEncryptionParameters.{LweEncryptionParameters}
use Rattle.lwe_parameters.specs.declared.parameter.LwePhaseParameters.{LwePhaseParameters}
use Rattle.lwe_parameters.specs.declared.parameter.LweDecryptionParameters.{LweDecryptionParameters}
use Rattle.lwe_parameters.specs.declared.parameter.LweParameters.{LweParameters}

-- what an opening takes of the parameters of an encryption: all but E, and for a phase no t
abbrev pub phases_in : LweDecryptionParameters → LwePhaseParameters
phases_in P = record { dimension = P.dimension; modulus = P.modulus }

abbrev pub phases_of : LweEncryptionParameters → LwePhaseParameters
phases_of P = record { dimension = P.dimension; modulus = P.modulus }

abbrev pub decryption_of : LweParameters → LweDecryptionParameters
decryption_of P = record { dimension = P.dimension; modulus = P.modulus; plaintext_modulus = P.plaintext_modulus }

-- parameters of an opening judge 2 and 6, and with t 7 and 8; "Phase = b − ⟨a, s⟩" has no E
abbrev pub phase_parameters_rows : LwePhaseParameters → List Check
phase_parameters_rows P = row (modulus_fails (meant P.modulus)) 2 ∷ row (dimension_fails P.dimension.0) 6 ∷ []

abbrev pub decryption_parameters_rows : LweDecryptionParameters → List Check
decryption_parameters_rows P =
    phase_parameters_rows (phases_in P)
    ++ row (plaintext_fails P.plaintext_modulus) 7
    ∷ row (small_fails P.plaintext_modulus (meant P.modulus)) 8
    ∷ []

-- parameters of an encryption judge 13 besides
abbrev pub encryption_parameters_rows : LweEncryptionParameters → List Check
encryption_parameters_rows P =
    phase_parameters_rows (phases_of P) ++ row (error_limit_fails (size_of P.modulus) P.error_limit) 13 ∷ []

abbrev pub encryption_parameters_answer : LweEncryptionParameters → Result LweEncryptionParameters Refusal
encryption_parameters_answer P = answer (encryption_parameters_rows P) P

abbrev pub parameters_rows : LweParameters → List Check
parameters_rows P =
    decryption_parameters_rows (decryption_of P) ++ row (error_limit_fails (size_of P.modulus) P.error_limit) 13 ∷ []

abbrev pub parameters_answer : LweParameters → Result LweParameters Refusal
parameters_answer P = answer (parameters_rows P) P

-- for the steps, and no part of a promise: an opening that may take a plaintext modulus
abbrev pub judged_rows : Option ℕ → LwePhaseParameters → List Check
judged_rows None P = phase_parameters_rows P
judged_rows (Some t) P =
    decryption_parameters_rows (record { dimension = P.dimension; modulus = P.modulus; plaintext_modulus = t })
