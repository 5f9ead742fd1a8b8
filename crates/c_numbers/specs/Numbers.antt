-- What the plain numbers of a C call stand for. "Decode is also called from our C service, which gives the modulus as one number, 0 for native": so do
-- the other calls. Levels 0 are left open; `centered` 0 is Unsigned, any other number is Centered.
use Rattle.std.specs.Prelude.{ℕ, eqb}
use Rattle.scheme.specs.Numbers.{pick}
use Rattle.primus_reduce.specs.Ring.{modulus_for}
use Rattle.codec_words.specs.declared.embedding.PlaintextEmbedding.{PlaintextEmbedding}
use Rattle.codec_words.specs.declared.embedding.PlaintextEmbedding.TheVariants.{Unsigned, Centered}
use Rattle.primus_lattice.specs.Answers.{given}
use Rattle.lwe_parameters.specs.declared.parameter.LweEncryptionParameters.{LweEncryptionParameters}
use Rattle.lwe_parameters.specs.declared.parameter.LweParameters.{LweParameters}
use Rattle.lwe_parameters.specs.declared.parameter.LwePhaseParameters.{LwePhaseParameters}
use Rattle.lwe_parameters.specs.declared.parameter.LweDecryptionParameters.{LweDecryptionParameters}
use Rattle.key_switch_parameters.specs.declared.LweKeySwitchingParameters.{LweKeySwitchingParameters}
use Rattle.key_switch_parameters.specs.Answers.{parameters_with}

abbrev pub embedding_for : ℕ → PlaintextEmbedding
embedding_for centered = pick (eqb centered 0) Unsigned Centered

-- q and n
abbrev pub phases_with : ℕ → ℕ → LwePhaseParameters
phases_with q n = record { dimension = given n; modulus = modulus_for q }

-- q, n and t
abbrev pub decryption_with : ℕ → ℕ → ℕ → LweDecryptionParameters
decryption_with q n t = record { dimension = given n; modulus = modulus_for q; plaintext_modulus = t }

-- q, n and E
abbrev pub encryption_with : ℕ → ℕ → ℕ → LweEncryptionParameters
encryption_with q n e = record { dimension = given n; modulus = modulus_for q; error_limit = e }

-- q, n, t and E
abbrev pub messages_with : ℕ → ℕ → ℕ → ℕ → LweParameters
messages_with q n t e = record { dimension = given n; modulus = modulus_for q; plaintext_modulus = t; error_limit = e }

-- q, base log, levels, n and m
abbrev pub switching_with : ℕ → ℕ → ℕ → ℕ → ℕ → LweKeySwitchingParameters
switching_with q b l n m = parameters_with (modulus_for q) b l n m
