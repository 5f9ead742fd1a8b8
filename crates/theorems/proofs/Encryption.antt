-- Encryption: the phase of what was written is plaintext plus error modulo q. Each theorem's premise is what the call promises where it
-- wrote; keys are of words or of signed numbers, packed ones of words.
--     encrypt_phase                  a plaintext; message_phase: a message
--     batch_phase_lem                    row i of a batch of messages
--     packed-phase                   body i of a packed ciphertext; packed_message_phase: of messages
--     public_phase_lem                   under a public key that the call wrote; public_message_phase: a message
-- The laws behind them speak of the definitions, where the call has no refusal.
-- Assumes nothing.
use mathlib.Core.Path.{◌≡◌, sym}
use mathlib.Core.List.{List}
use Prim.Native.Nat.{ℕ, ◌*◌, ◌<◌}
use native.Mathlib.Omega.{arith}
use lib.IntN.{ℤ, pos, ◌+ℤ◌}
use lib.ListN.{length, take, drop}
use Rattle.std.proofs.Common.{Ok}
use Rattle.scheme.specs.Lwe.{Key, secret_of, words, signed, encrypted, encrypted_rows, packed, row_of, public_key, public_encrypted, Errors, error_count, error_at}
use Rattle.scheme.specs.Checks.{refusal, length_fails}
use Rattle.scheme.proofs.Checks.{length_ok}
use Rattle.scheme.proofs.Order.{passed, neither}
use Rattle.scheme.proofs.Lwe.{phase_fresh, phase-packed}
use Rattle.scheme.proofs.Public.{row_mask, row-encrypted, phase_public_key}
use Rattle.primus_reduce.specs.Ring.{size_of}
use Rattle.primus_reduce.specs.declared.modulus.Modulus.{Modulus}
use Rattle.codec_words.specs.declared.embedding.PlaintextEmbedding.{PlaintextEmbedding}
use Rattle.primus_lattice.specs.declared.dimension.LweDimension.{LweDimension}
use Rattle.lwe_tag.specs.declared.LweTag.{LweTag}
use Rattle.lwe_parameters.specs.declared.parameter.LweEncryptionParameters.{LweEncryptionParameters}
use Rattle.lwe_parameters.specs.declared.parameter.LweParameters.{LweParameters}
use Rattle.lwe_refusals.specs.Rows.{encrypt_rows, message_rows}
use Rattle.primus_lwe.specs.Answers.{encoded, encodings, Encrypts, EncryptsMessage}
use Rattle.primus_lwe.proofs.Laws.{positive, lengths, mask_ok}
use Rattle.lwe_batch_refusals.specs.Rows.{encrypt_batch_rows}
use Rattle.primus_lwe_batch.specs.Answers.{EncryptsBatch}
use Rattle.lwe_packed_refusals.specs.Rows.{packed_rows, packed_message_rows}
use Rattle.primus_lwe_packed.specs.Answers.{EncryptsPacked, EncryptsPackedMessages}
use Rattle.primus_lwe_packed.proofs.Laws.{pack_ok}
use Rattle.primus_lwe_public_key.specs.Answers.{generate_rows, GeneratesPublicKey, EncryptsPublic, EncryptsPublicMessage}
use Rattle.theorems.specs.Phases.{HasPhase, HasPackedPhase, public_phase}
use Rattle.theorems.proofs.Calls.{wrote, written}

-- ---- one ciphertext

module _ (P : LweEncryptionParameters) (key : Key) (a : List ℕ) (es : Errors) (p : ℕ) where
  pub encrypt_accepted : (room : ℕ) → refusal (encrypt_rows P key a es p room) ≡ 0
      → HasPhase (size_of P.modulus) P.dimension.0
      (encrypted (size_of P.modulus) P.dimension.0 a (secret_of key) (error_at (size_of P.modulus) es 0) (pos p)) (secret_of key)
      (pos p +ℤ error_at (size_of P.modulus) es 0)
  encrypt_accepted room e =
      let no = passed (encrypt_rows P key a es p room) e in
      phase_fresh (size_of P.modulus) (positive P.modulus (no 2 tt)) P.dimension.0 a (secret_of key) (mask_ok (length a) (error_count es) P.dimension.0 (lengths (encrypt_rows P key a es p room) (sym e))) (error_at (size_of P.modulus) es 0) (pos p)

  pub encrypt_phase : {before after : List ℕ} {tag : LweTag} → Encrypts P key a es p before (Ok tag) after
      → HasPhase (size_of P.modulus) P.dimension.0 after (secret_of key) (pos p +ℤ error_at (size_of P.modulus) es 0)
  encrypt_phase {before} c = let w = written c.writes in rw w.1 (encrypt_accepted (length before) w.0)

module _ (P : LweParameters) (g : PlaintextEmbedding) (key : Key) (a : List ℕ) (es : Errors) (x : ℕ) where
  pub message_accepted : (room : ℕ) → refusal (message_rows P key a es x room) ≡ 0
      → HasPhase (size_of P.modulus) P.dimension.0
      (encrypted (size_of P.modulus) P.dimension.0 a (secret_of key) (error_at (size_of P.modulus) es 0) (encoded g P x)) (secret_of key)
      (encoded g P x +ℤ error_at (size_of P.modulus) es 0)
  message_accepted room e =
      let no = passed (message_rows P key a es x room) e in
      phase_fresh (size_of P.modulus) (positive P.modulus (no 2 tt)) P.dimension.0 a (secret_of key) (mask_ok (length a) (error_count es) P.dimension.0 (lengths (message_rows P key a es x room) (sym e))) (error_at (size_of P.modulus) es 0) (encoded g P x)

  pub message_phase : {before after : List ℕ} {tag : LweTag} → EncryptsMessage P g key a es x before (Ok tag) after
      → HasPhase (size_of P.modulus) P.dimension.0 after (secret_of key) (encoded g P x +ℤ error_at (size_of P.modulus) es 0)
  message_phase {before} c = let w = written c.writes in rw w.1 (message_accepted (length before) w.0)

-- ---- a batch

module _ (P : LweParameters) (g : PlaintextEmbedding) (key : Key) (masks : List ℕ) (es : Errors) (xs : List ℕ) where
  -- the masks of an accepted batch
  pub batch_masks : (room : ℕ) → refusal (encrypt_batch_rows P key masks es xs room) ≡ 0 → (0 < size_of P.modulus) × (length masks ≡ length xs * P.dimension.0)
  batch_masks room e =
      let no = passed (encrypt_batch_rows P key masks es xs room) e in
      (positive P.modulus (no 2 tt), length_ok _ _ (neither (length_fails (length masks) (length xs * P.dimension.0)) (length_fails (error_count es) (length xs)) (no 12 tt)).0)

  pub batch_accepted : (room : ℕ) → refusal (encrypt_batch_rows P key masks es xs room) ≡ 0 → (i : ℕ) → i < length xs
      → HasPhase (size_of P.modulus) P.dimension.0
      (row_of P.dimension.0 (encrypted_rows (size_of P.modulus) P.dimension.0 (length xs) masks (secret_of key) (error_at (size_of P.modulus) es) (encodings g P xs)) i) (secret_of key)
      (encodings g P xs i +ℤ error_at (size_of P.modulus) es i)
  batch_accepted room e i h =
      let q = size_of P.modulus in
      let n = P.dimension.0 in
      let (positive, l) = batch_masks room e in
      rw (row-encrypted q n (length xs) i masks (secret_of key) (error_at (size_of P.modulus) es) (encodings g P xs) l h)
      (phase_fresh q positive n (take n (drop (i * n) masks)) (secret_of key) (row_mask n (length xs) i masks l h) (error_at (size_of P.modulus) es i) (encodings g P xs i))

  pub batch_phase_lem : {before after : List ℕ} {tag : LweTag} → EncryptsBatch P g key masks es xs before (Ok tag) after → (i : ℕ) → i < length xs
      → HasPhase (size_of P.modulus) P.dimension.0 (row_of P.dimension.0 after i) (secret_of key) (encodings g P xs i +ℤ error_at (size_of P.modulus) es i)
  batch_phase_lem {before} c = let w = written c.writes in rw w.1 (batch_accepted (length before) w.0)

-- ---- packed

module _ (P : LweEncryptionParameters) (s a : List ℕ) (es : Errors) (ps : List ℕ) where
  pub packed-accepted : (room : ℕ) → refusal (packed_rows P s a es ps room) ≡ 0 → (i : ℕ) → i < length ps
      → HasPackedPhase (size_of P.modulus) P.dimension.0
      (packed (size_of P.modulus) P.dimension.0 (length ps) a (words s) (error_at (size_of P.modulus) es) (words ps)) (words s) i (words ps i +ℤ error_at (size_of P.modulus) es i)
  packed-accepted room e i h =
      let no = passed (packed_rows P s a es ps room) e in
      let k = pack_ok P.dimension.0 (length s) (length a) (error_count es) (length ps) room (lengths (packed_rows P s a es ps room) (sym e)) in
      phase-packed (size_of P.modulus) (positive P.modulus (no 2 tt)) P.dimension.0 a (words s) k.each (length ps) (error_at (size_of P.modulus) es) (words ps) i (omega (arith, k.most, k.each)) h

  pub packed-phase : {before after : List ℕ} {tag : LweTag} → EncryptsPacked P s a es ps before (Ok tag) after → (i : ℕ) → i < length ps
      → HasPackedPhase (size_of P.modulus) P.dimension.0 after (words s) i (words ps i +ℤ error_at (size_of P.modulus) es i)
  packed-phase {before} c = let w = written c.writes in rw w.1 (packed-accepted (length before) w.0)

module _ (P : LweParameters) (g : PlaintextEmbedding) (s a : List ℕ) (es : Errors) (xs : List ℕ) where
  pub packed_message_accepted : (room : ℕ) → refusal (packed_message_rows P s a es xs room) ≡ 0 → (i : ℕ) → i < length xs
      → HasPackedPhase (size_of P.modulus) P.dimension.0
      (packed (size_of P.modulus) P.dimension.0 (length xs) a (words s) (error_at (size_of P.modulus) es) (encodings g P xs)) (words s) i (encodings g P xs i +ℤ error_at (size_of P.modulus) es i)
  packed_message_accepted room e i h =
      let no = passed (packed_message_rows P s a es xs room) e in
      let k = pack_ok P.dimension.0 (length s) (length a) (error_count es) (length xs) room (lengths (packed_message_rows P s a es xs room) (sym e)) in
      phase-packed (size_of P.modulus) (positive P.modulus (no 2 tt)) P.dimension.0 a (words s) k.each (length xs) (error_at (size_of P.modulus) es) (encodings g P xs) i (omega (arith, k.most, k.each)) h

  pub packed_message_phase : {before after : List ℕ} {tag : LweTag} → EncryptsPackedMessages P g s a es xs before (Ok tag) after → (i : ℕ) → i < length xs
      → HasPackedPhase (size_of P.modulus) P.dimension.0 after (words s) i (encodings g P xs i +ℤ error_at (size_of P.modulus) es i)
  packed_message_phase {before} c = let w = written c.writes in rw w.1 (packed_message_accepted (length before) w.0)

-- ---- under a public key, whose generation and use may have other limits E and F of their errors

module _ (d : LweDimension) (m : Modulus) (E : ℕ) (key : Key) (masks : List ℕ) (es : Errors) where
  abbrev made : LweEncryptionParameters
  made = record { dimension = d; modulus = m; error_limit = E }

  pub public_accepted : (room : ℕ) → refusal (generate_rows made key masks es room) ≡ 0 → (f r : ℕ → ℤ) (p : ℤ)
      → HasPhase (size_of m) d.0 (public_encrypted (size_of m) d.0 (public_key (size_of m) d.0 masks (secret_of key) (error_at (size_of m) es)) f p r) (secret_of key)
      (public_phase d.0 p f (secret_of key) r (error_at (size_of m) es))
  public_accepted room e f r p =
      let no = passed (generate_rows made key masks es room) e in
      let each = length_ok _ _ (neither (length_fails (length masks) (d.0 * d.0)) (length_fails (error_count es) d.0) (no 12 tt)).0 in
      phase_public_key (size_of m) (positive m (no 2 tt)) d.0 masks (secret_of key) (error_at (size_of m) es) f r p each

  module _ {blank pk : List ℕ} (made-it : GeneratesPublicKey (record { dimension = d; modulus = m; error_limit = E }) key masks es blank 0 pk) (fs : Errors) (rs : List ℤ) where
    -- with the key that the call wrote
    with_key : (p : ℤ) → HasPhase (size_of m) d.0 (public_encrypted (size_of m) d.0 pk (error_at (size_of m) fs) p (signed rs)) (secret_of key)
        (public_phase d.0 p (error_at (size_of m) fs) (secret_of key) (signed rs) (error_at (size_of m) es))
    with_key p = let w = wrote made-it.writes in rw w.1 (public_accepted (length blank) w.0 (error_at (size_of m) fs) (signed rs) p)

    pub public_phase_lem : (F p : ℕ) {before after : List ℕ} {tag : LweTag}
        → EncryptsPublic (record { dimension = d; modulus = m; error_limit = F }) pk fs rs p before (Ok tag) after
        → HasPhase (size_of m) d.0 after (secret_of key) (public_phase d.0 (pos p) (error_at (size_of m) fs) (secret_of key) (signed rs) (error_at (size_of m) es))
    public_phase_lem F p c = rw (written c.writes).1 (with_key (pos p))

    pub public_message_phase : (F t : ℕ) (g : PlaintextEmbedding) (x : ℕ) {before after : List ℕ} {tag : LweTag}
        → let P : LweParameters = record { dimension = d; modulus = m; plaintext_modulus = t; error_limit = F } in
        EncryptsPublicMessage P g pk fs rs x before (Ok tag) after
        → HasPhase (size_of m) d.0 after (secret_of key) (public_phase d.0 (encoded g P x) (error_at (size_of m) fs) (secret_of key) (signed rs) (error_at (size_of m) es))
    public_message_phase F t g x c = rw (written c.writes).1 (with_key _)
