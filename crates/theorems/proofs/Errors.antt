-- Lent errors that are words below q (T-01). A call with words gives the answer and the tag, and leaves the words, of the call with the signed
-- numbers that they count as, refused or not; so every law of a phase, an opening and a bound, which speaks of these numbers, holds for both.
--     encrypt_counted, message_counted, batch_counted, packed_counted, packed_message_counted     under a secret key
--     public_key_counted, public_counted, public_message_counted                                  a public key, and under it
--     switching_key_counted                                                                       a switching key
--     native_words     words of 32 bits are below the native modulus, so natively no error is 14
-- Natively the word 2^31 counts as 2^31, which no signed number of 32 bits is: with it both promises are 15 or an earlier number.
-- Assumes nothing.
use mathlib.Core.Path.{◌≡◌, sym, ◌∙◌}
use mathlib.Core.Bool.{false}
use mathlib.Core.List.{List}
use Prim.Native.Nat.{ℕ, ◌^◌, ◌<◌}
use lib.IntN.{ℤ}
use lib.ListN.{get_or}
use Rattle.std.proofs.Common.{Result}
use Rattle.scheme.specs.Lwe.{Key, Errors, ErrorWords, ErrorNumbers, error_values}
use Rattle.scheme.specs.Checks.{Check, words_fail, error_words_fail, Writes}
use Rattle.scheme.proofs.Nearest.{error_length}
use Rattle.checks.proofs.Laws.{words_below}
use Rattle.check_order.specs.declared.refusal.Refusal.{Refusal}
use Rattle.primus_reduce.specs.Ring.{size_of}
use Rattle.primus_reduce.specs.declared.modulus.Modulus.TheVariants.{Native}
use Rattle.codec_words.specs.declared.embedding.PlaintextEmbedding.{PlaintextEmbedding}
use Rattle.lwe_tag.specs.declared.LweTag.{LweTag}
use Rattle.lwe_tag.specs.Answers.{WritesTagged}
use Rattle.lwe_parameters.specs.declared.parameter.LweEncryptionParameters.{LweEncryptionParameters}
use Rattle.lwe_parameters.specs.declared.parameter.LweParameters.{LweParameters}
use Rattle.primus_lwe.specs.Answers.{Encrypts, EncryptsMessage}
use Rattle.primus_lwe_batch.specs.Answers.{EncryptsBatch}
use Rattle.primus_lwe_packed.specs.Answers.{EncryptsPacked, EncryptsPackedMessages}
use Rattle.primus_lwe_public_key.specs.Answers.{GeneratesPublicKey, EncryptsPublic, EncryptsPublicMessage}
use Rattle.key_switch_parameters.specs.declared.LweKeySwitchingParameters.{LweKeySwitchingParameters}
use Rattle.key_switch_parameters.specs.Answers.{q_in}
use Rattle.key_switch_key.specs.Answers.{Generates}

-- one promise fixes the answer and the words
tagged_once : {rows : List Check} {tag : LweTag} {result before after out : List ℕ} {a b : Result LweTag Refusal}
    → WritesTagged rows tag result before a after → WritesTagged rows tag result before b out → (a ≡ b) × (after ≡ out)
tagged_once v w = (v.answered ∙ sym w.answered, v.holds ∙ sym w.holds)

written_once : {rows : List Check} {result before after out : List ℕ} {r s : ℕ} → Writes rows result before r after → Writes rows result before s out
    → (r ≡ s) × (after ≡ out)
written_once v w = (v.answered ∙ sym w.answered, v.holds ∙ sym w.holds)

-- the words as signed numbers
abbrev pub counted : ℕ → List ℕ → Errors
counted q ws = ErrorNumbers (error_values q (ErrorWords ws))

module _ (ws : List ℕ) {before after out : List ℕ} {a b : Result LweTag Refusal} where
  module _ {P : LweEncryptionParameters} (below : words_fail (size_of P.modulus) ws ≡ false) where
    pub encrypt_counted : {key : Key} {mask : List ℕ} {p : ℕ} → Encrypts P key mask (ErrorWords ws) p before a after
        → Encrypts P key mask (counted (size_of P.modulus) ws) p before b out → (a ≡ b) × (after ≡ out)
    encrypt_counted c d = tagged_once (rw below at c.writes) (rw (error_length (size_of P.modulus) (ErrorWords ws)) at d.writes)

    pub packed_counted : {secret mask ps : List ℕ} → EncryptsPacked P secret mask (ErrorWords ws) ps before a after
        → EncryptsPacked P secret mask (counted (size_of P.modulus) ws) ps before b out → (a ≡ b) × (after ≡ out)
    packed_counted c d = tagged_once (rw below at c.writes) (rw (error_length (size_of P.modulus) (ErrorWords ws)) at d.writes)

    pub public_counted : {key : List ℕ} {rs : List ℤ} {p : ℕ} → EncryptsPublic P key (ErrorWords ws) rs p before a after
        → EncryptsPublic P key (counted (size_of P.modulus) ws) rs p before b out → (a ≡ b) × (after ≡ out)
    public_counted c d = tagged_once (rw below at c.writes) (rw (error_length (size_of P.modulus) (ErrorWords ws)) at d.writes)

  module _ {P : LweParameters} {g : PlaintextEmbedding} (below : words_fail (size_of P.modulus) ws ≡ false) where
    pub message_counted : {key : Key} {mask : List ℕ} {x : ℕ} → EncryptsMessage P g key mask (ErrorWords ws) x before a after
        → EncryptsMessage P g key mask (counted (size_of P.modulus) ws) x before b out → (a ≡ b) × (after ≡ out)
    message_counted c d = tagged_once (rw below at c.writes) (rw (error_length (size_of P.modulus) (ErrorWords ws)) at d.writes)

    pub batch_counted : {key : Key} {masks xs : List ℕ} → EncryptsBatch P g key masks (ErrorWords ws) xs before a after
        → EncryptsBatch P g key masks (counted (size_of P.modulus) ws) xs before b out → (a ≡ b) × (after ≡ out)
    batch_counted c d = tagged_once (rw below at c.writes) (rw (error_length (size_of P.modulus) (ErrorWords ws)) at d.writes)

    pub packed_message_counted : {secret mask xs : List ℕ} → EncryptsPackedMessages P g secret mask (ErrorWords ws) xs before a after
        → EncryptsPackedMessages P g secret mask (counted (size_of P.modulus) ws) xs before b out → (a ≡ b) × (after ≡ out)
    packed_message_counted c d = tagged_once (rw below at c.writes) (rw (error_length (size_of P.modulus) (ErrorWords ws)) at d.writes)

    pub public_message_counted : {key : List ℕ} {rs : List ℤ} {x : ℕ} → EncryptsPublicMessage P g key (ErrorWords ws) rs x before a after
        → EncryptsPublicMessage P g key (counted (size_of P.modulus) ws) rs x before b out → (a ≡ b) × (after ≡ out)
    public_message_counted c d = tagged_once (rw below at c.writes) (rw (error_length (size_of P.modulus) (ErrorWords ws)) at d.writes)

module _ (ws : List ℕ) {before after out : List ℕ} {r s : ℕ} where
  pub public_key_counted : {P : LweEncryptionParameters} {key : Key} {masks : List ℕ} → words_fail (size_of P.modulus) ws ≡ false
      → GeneratesPublicKey P key masks (ErrorWords ws) before r after
      → GeneratesPublicKey P key masks (counted (size_of P.modulus) ws) before s out → (r ≡ s) × (after ≡ out)
  public_key_counted {P} below c d = written_once (rw below at c.writes) (rw (error_length (size_of P.modulus) (ErrorWords ws)) at d.writes)

  pub switching_key_counted : {P : LweKeySwitchingParameters} {E : ℕ} {key : Key} {s' masks : List ℕ} → words_fail (q_in P) ws ≡ false
      → Generates P E key s' masks (ErrorWords ws) before r after
      → Generates P E key s' masks (counted (q_in P) ws) before s out → (r ≡ s) × (after ≡ out)
  switching_key_counted {P} below c d = written_once (rw below at c.writes) (rw (error_length (q_in P) (ErrorWords ws)) at d.writes)

pub native_words : (ws : List ℕ) → ((i : ℕ) → get_or ws i 0 < 2 ^ 32) → error_words_fail (size_of Native) (ErrorWords ws) ≡ false
native_words ws h = sym (words_below (2 ^ 32) ws h)
