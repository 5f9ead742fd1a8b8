-- What each call is judged by, and what it promises.
use Rattle.std.specs.Prelude.{List, [], ◌∷◌, ◌++◌, ℕ, ◌+◌, ◌*◌, ℤ, pos, length, Result}
use Rattle.scheme.specs.Lwe.{Key, secret_of, key_length, signed, public_key, public_encrypted}
use Rattle.scheme.specs.Lwe.{Errors, error_count, error_values, error_at}
use Rattle.scheme.specs.Checks.{Check, row, Writes, length_fails, word_fails, words_fail, key_fails}
use Rattle.scheme.specs.Checks.{error_words_fail, errors_fail, coefficients_fail, message_fails}
use Rattle.primus_reduce.specs.Ring.{size_of}
use Rattle.codec_words.specs.declared.embedding.PlaintextEmbedding.{PlaintextEmbedding}
use Rattle.lwe_parameters.specs.declared.parameter.LweEncryptionParameters.{LweEncryptionParameters}
use Rattle.lwe_parameters.specs.declared.parameter.LweParameters.{LweParameters}
use Rattle.lwe_parameters.specs.Answers.{encryption_parameters_rows, parameters_rows}
use Rattle.primus_lwe.specs.Answers.{encoded}
use Rattle.check_order.specs.declared.refusal.Refusal.{Refusal}
use Rattle.lwe_tag.specs.declared.LweTag.{LweTag}
use Rattle.lwe_tag.specs.Answers.{tag_from, WritesTagged}
use Rattle.scheme.specs.Tally.{PublicKey}

-- a generation under a secret key, from n lent masks, one after the other, and n errors
abbrev pub generate_rows : LweEncryptionParameters → Key → List ℕ → Errors → ℕ → List Check
generate_rows P key masks es room =
    encryption_parameters_rows P
    ++ row (length_fails (key_length key) P.dimension.0) 9
    ∷ row (length_fails room (P.dimension.0 * (P.dimension.0 + 1))) 11
    ∷ row (length_fails (length masks) (P.dimension.0 * P.dimension.0)) 12
    ∷ row (length_fails (error_count es) P.dimension.0) 12
    ∷ row (error_words_fail (size_of P.modulus) es) 14
    ∷ row (key_fails (size_of P.modulus) key) 14
    ∷ row (words_fail (size_of P.modulus) masks) 14
    ∷ row (errors_fail P.error_limit (error_values (size_of P.modulus) es)) 15
    ∷ []

-- "Public key: n encryptions of 0"
pub record GeneratesPublicKey (P : LweEncryptionParameters) (key : Key) (masks : List ℕ) (es : Errors)
    (before : List ℕ) (r : ℕ) (after : List ℕ) : Type 0 where
  pub writes :
      Writes (generate_rows P key masks es (length before))
      (public_key (size_of P.modulus) P.dimension.0 masks (secret_of key) (error_at (size_of P.modulus) es))
      before r after

-- what every encryption is lent, for dimension n, size q and limit E: the key, n + 1 errors, n coefficients, an output
abbrev pub lent_rows : ℕ → ℕ → ℕ → List ℕ → Errors → List ℤ → ℕ → List Check
lent_rows n q E key es rs room =
    row (length_fails (length key) (n * (n + 1))) 9
    ∷ row (length_fails room (n + 1)) 11
    ∷ row (length_fails (error_count es) (n + 1)) 12
    ∷ row (length_fails (length rs) n) 12
    ∷ row (error_words_fail q es) 14
    ∷ row (words_fail q key) 14
    ∷ row (errors_fail E (error_values q es)) 15
    ∷ row (coefficients_fail rs) 15
    ∷ []

-- an encryption of p
abbrev pub public_rows : LweEncryptionParameters → List ℕ → Errors → List ℤ → ℕ → ℕ → List Check
public_rows P key es rs p room =
    encryption_parameters_rows P
    ++ lent_rows P.dimension.0 (size_of P.modulus) P.error_limit key es rs room
    ++ row (word_fails (size_of P.modulus) p) 14
    ∷ []

-- "starts from n + 1 errors, adds p to the body, then adds or subtracts row i by a lent coefficient rᵢ"
pub record EncryptsPublic (P : LweEncryptionParameters) (key : List ℕ) (es : Errors) (rs : List ℤ) (p : ℕ)
    (before : List ℕ) (answer : Result LweTag Refusal) (after : List ℕ) : Type 0 where
  pub writes :
      WritesTagged (public_rows P key es rs p (length before)) (tag_from PublicKey)
      (public_encrypted (size_of P.modulus) P.dimension.0 key (error_at (size_of P.modulus) es) (pos p) (signed rs))
      before answer after

-- an encryption of the message x below t
abbrev pub public_message_rows : LweParameters → List ℕ → Errors → List ℤ → ℕ → ℕ → List Check
public_message_rows P key es rs x room =
    parameters_rows P
    ++ lent_rows P.dimension.0 (size_of P.modulus) P.error_limit key es rs room
    ++ row (message_fails P.plaintext_modulus x) 16
    ∷ []

-- as above, of the plaintext p of x
pub record EncryptsPublicMessage (P : LweParameters) (g : PlaintextEmbedding) (key : List ℕ) (es : Errors) (rs : List ℤ)
    (x : ℕ) (before : List ℕ) (answer : Result LweTag Refusal) (after : List ℕ) : Type 0 where
  pub writes :
      WritesTagged (public_message_rows P key es rs x (length before)) (tag_from PublicKey)
      (public_encrypted (size_of P.modulus) P.dimension.0 key (error_at (size_of P.modulus) es) (encoded g P x)
      (signed rs))
      before answer after
