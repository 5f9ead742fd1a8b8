-- Opening what was written: no number applies, and the answer is what was encrypted.
--     phase-answered     taking the phase of an encrypted plaintext answers plaintext plus error modulo q
--     opens              if 2tE + t < q, decrypting what encrypt_message_to wrote answers the message, in both embeddings
--     opens_marked       written, marked good by the tag that was answered, opened: the message
--     opens_row          the same of row i of a batch, decrypted alone; opens_row_marked
--     opens_batch        and of the batch, decrypted as one; opens_batch_marked
-- Assumes nothing.
use mathlib.Core.Path.{◌≡◌, refl, sym, ap, ◌∙◌}
use mathlib.Core.Bool.{Bool, true, false, not, ◌||◌}
use mathlib.Core.List.{List}
use Prim.Native.Nat.{ℕ, ◌+◌, ◌*◌, ◌^◌, ◌/◌, ◌%◌, ◌<◌, ◌≤◌}
use native.Mathlib.Nat.{mul-mod_left, mul-div_cancel}
use native.Mathlib.Omega.{arith}
use lib.IntN.{ℤ, pos, nat_abs, ◌+ℤ◌}
use lib.ListN.{length, get_or, take, drop}
use borrow.Author.Tests.{eq-eqb, ltb-true, le-ltb}
use Rattle.std.proofs.Common.{Result, Ok}
use Rattle.check_order.specs.declared.refusal.Refusal.{Refusal}
use Rattle.scheme.specs.Numbers.{residue, tabulate}
use Rattle.scheme.specs.Lwe.{Key, secret_of, encrypted, encrypted_rows, phase_of, row_of, Errors, error_count, error_values, error_at}
use Rattle.scheme.specs.Codec.{decode}
use Rattle.scheme.specs.Switch.{Below}
use Rattle.scheme.specs.Checks.{refusal, first_in, length_fails, word_fails, batch_fails, words_fail, key_fails, error_words_fail, error_limit_fails}
use Rattle.scheme.proofs.Residue.{residue_cong, word-residue}
use Rattle.scheme.proofs.Nearest.{error_length}
use Rattle.scheme.proofs.Checks.{length_ok, words_ok, magnitudes_ok, message_ok, error_limit_ok}
use Rattle.scheme.proofs.Order.{passed, neither}
use Rattle.scheme.proofs.Lists.{is_tabulate, tabulate_ext}
use Rattle.scheme.proofs.Rows.{rows-length, rows-below, part_length, part_below}
use Rattle.scheme.proofs.Lwe.{opens_fresh}
use Rattle.scheme.proofs.Public.{row_mask, row-encrypted, encrypted-row}
use Rattle.scheme.proofs.Switch.{encrypted-length, encrypted-below}
use Rattle.primus_reduce.specs.Ring.{size_of}
use Rattle.primus_reduce.specs.declared.modulus.Modulus.{Modulus}
use Rattle.codec_words.specs.declared.embedding.PlaintextEmbedding.{PlaintextEmbedding}
use Rattle.codec_words.specs.Embedding.{meant_embedding}
use Rattle.scheme.specs.Tally.{Carried, Fresh, carried_from, good}
use Rattle.lwe_tag.specs.declared.LweTag.{LweTag}
use Rattle.check_order.proofs.Answers.{answered_ok}
use Rattle.lwe_tag.specs.Answers.{carried_of, tag_from, mark_rows, mark_answer}
use Rattle.lwe_tag.proofs.Laws.{tag_back}
use Rattle.lwe_parameters.specs.declared.parameter.LweEncryptionParameters.{LweEncryptionParameters}
use Rattle.lwe_parameters.specs.declared.parameter.LweParameters.{LweParameters}
use Rattle.lwe_parameters.specs.Answers.{phases_of, decryption_of}
use Rattle.lwe_refusals.specs.Rows.{encrypt_rows, phase_rows, message_rows, decrypt_rows}
use Rattle.primus_lwe.specs.Answers.{encoded, encodings, Encrypts, TakesPhase, EncryptsMessage, Decrypts}
use Rattle.primus_lwe.proofs.Laws.{positive, lengths, mask_ok}
use Rattle.primus_lwe.proofs.Coded.{phase-below}
use Rattle.lwe_batch_refusals.specs.Rows.{encrypt_batch_rows, decrypt_batch_rows}
use Rattle.primus_lwe_batch.specs.Answers.{batch_phase, EncryptsBatch, DecryptsBatch}
use Rattle.theorems.specs.Phases.{HasPhase}
use Rattle.theorems.proofs.Calls.{written, settled, told, words_fit, length_fit}
use Rattle.theorems.proofs.Encryption.{encrypt_phase, batch_masks}

-- what is_good answers true of carries a good mark
pub marked_carried : (m : Modulus) (t : ℕ) (tag : LweTag) (c : Carried) → carried_of tag ≡ c → mark_answer tag m t ≡ Ok true → good (size_of m) t c ≡ true
marked_carried m t tag c same e = ap (good (size_of m) t) (sym same) ∙ sym (answered_ok (mark_rows tag m t) _ true (sym e)).1

-- of a tag that an encryption gave
pub fresh_carried : (q E : ℕ) {tag : LweTag} → tag ≡ tag_from (Fresh E) → error_limit_fails q E ≡ false → carried_of tag ≡ carried_from (Fresh E)
fresh_carried q E same limit = ap carried_of same ∙ tag_back (carried_from (Fresh E)) (rw (le-ltb (2 ^ 32) E (omega (arith, (error_limit_ok q E limit).0))) refl)

pub marked_good : (E : ℕ) (m : Modulus) (t : ℕ) {tag : LweTag} → tag ≡ tag_from (Fresh E) → error_limit_fails (size_of m) E ≡ false
    → mark_answer tag m t ≡ Ok true → 2 * t * E + t < size_of m
marked_good E m t same limit e =
    let l : 2 * t * E + 1 * t < size_of m = ltb-true (2 * t * E + 1 * t) (size_of m) (marked_carried m t _ (carried_from (Fresh E)) (fresh_carried (size_of m) E same limit) e) in
    omega arith

-- ---- one ciphertext

module _ (q n : ℕ) (a : List ℕ) (s : ℕ → ℤ) (e p : ℤ) (h : 0 < q) (l : length a ≡ n) (w : words_fail q a ≡ false) where
  -- of what was encrypted neither 10 nor 14 says anything
  fresh_fits : (length_fails (length (encrypted q n a s e p)) (n + 1) ≡ false) × (words_fail q (encrypted q n a s e p) ≡ false)
  fresh_fits = (
    length_fit _ _ (encrypted-length q n a s e p ∙ ap (λ k. k + 1) l),
    words_fit q _ (encrypted-below q n h a s e p (words_ok q a w)),
  )

-- a phase is the residue of what it is modulo q
phase-word : (q n : ℕ) (x : List ℕ) (s : ℕ → ℤ) (z : ℤ) → 0 < q → HasPhase q n x s z → phase_of q n x s ≡ residue z q
phase-word q n x s z h c = sym (word-residue q (phase_of q n x s) (phase-below q n x s _ h refl)) ∙ residue_cong h c

-- of 14 over errors, key and masks: the key and the masks
pub others : (es key masks : Bool) → ((masks || key) || es) ≡ false → (key ≡ false) × (masks ≡ false)
others es key masks e = neither key masks (neither es (masks || key) e).1

module _ (P : LweEncryptionParameters) (key : Key) (a : List ℕ) (es : Errors) (p : ℕ) where
  abbrev ciphertext : List ℕ
  ciphertext = encrypted (size_of P.modulus) P.dimension.0 a (secret_of key) (error_at (size_of P.modulus) es 0) (pos p)

  -- no number applies to what was encrypted
  pub phase-accepted : (room : ℕ) → refusal (encrypt_rows P key a es p room) ≡ 0 → refusal (phase_rows (phases_of P) key ciphertext) ≡ 0
  unfolding refusal first_in
  phase-accepted room e =
      let q = size_of P.modulus in
      let no = passed (encrypt_rows P key a es p room) e in
      let (keyed, masked) = neither (key_fails q key) (words_fail q a) (neither (word_fails q p) (words_fail q a || key_fails q key) (neither (error_words_fail q es) ((words_fail q a || key_fails q key) || word_fails q p) (no 14 tt)).1).1 in
      let f = fresh_fits q P.dimension.0 a (secret_of key) (error_at (size_of P.modulus) es 0) (pos p) (positive P.modulus (no 2 tt)) (mask_ok (length a) (error_count es) P.dimension.0 (lengths (encrypt_rows P key a es p room) (sym e))) masked in
      rw (no 2 tt, no 6 tt, no 9 tt, f.0, keyed, f.1)

  pub phase-answered : {before after : List ℕ} {tag : LweTag} {answer : Result ℕ Refusal} → Encrypts P key a es p before (Ok tag) after → TakesPhase (phases_of P) key after answer
      → answer ≡ Ok (residue (pos p +ℤ error_at (size_of P.modulus) es 0) (size_of P.modulus))
  phase-answered {before} {after} c d =
      let w = written c.writes in
      d.is
      ∙ told (phase_rows (phases_of P) key after) _ (rw w.1 (phase-accepted (length before) w.0))
      ∙ ap Ok (phase-word (size_of P.modulus) P.dimension.0 after (secret_of key) _ (positive P.modulus (passed (encrypt_rows P key a es p (length before)) w.0 2 tt)) (encrypt_phase P key a es p c))

module _ (P : LweParameters) (g : PlaintextEmbedding) (key : Key) (a : List ℕ) (es : Errors) (x : ℕ) where
  abbrev ciphertext_of : List ℕ
  ciphertext_of = encrypted (size_of P.modulus) P.dimension.0 a (secret_of key) (error_at (size_of P.modulus) es 0) (encoded g P x)

  pub decrypt_accepted : (room : ℕ) → refusal (message_rows P key a es x room) ≡ 0 → refusal (decrypt_rows (decryption_of P) key ciphertext_of) ≡ 0
  unfolding refusal first_in
  decrypt_accepted room e =
      let q = size_of P.modulus in
      let no = passed (message_rows P key a es x room) e in
      let (keyed, masked) = others (error_words_fail q es) (key_fails q key) (words_fail q a) (no 14 tt) in
      let f = fresh_fits q P.dimension.0 a (secret_of key) (error_at (size_of P.modulus) es 0) (encoded g P x) (positive P.modulus (no 2 tt)) (mask_ok (length a) (error_count es) P.dimension.0 (lengths (message_rows P key a es x room) (sym e))) masked in
      rw (no 2 tt, no 6 tt, no 7 tt, no 8 tt, no 9 tt, f.0, keyed, f.1)

  -- an accepted error is within ±E
  pub within : (room : ℕ) → refusal (message_rows P key a es x room) ≡ 0 → nat_abs (error_at (size_of P.modulus) es 0) ≤ P.error_limit
  within room e =
      let no = passed (message_rows P key a es x room) e in
      let one : error_count es ≡ 1 = length_ok _ _ (neither (length_fails (length a) P.dimension.0) (length_fails (error_count es) 1) (no 12 tt)).1 in
      omega (arith, magnitudes_ok (P.error_limit + 1) (error_values (size_of P.modulus) es) (no 15 tt) 0 (omega (arith, error_length (size_of P.modulus) es)))

  pub decoded-accepted : (room : ℕ) → refusal (message_rows P key a es x room) ≡ 0
      → 2 * P.plaintext_modulus * P.error_limit + P.plaintext_modulus < size_of P.modulus
      → decode (size_of P.modulus) P.plaintext_modulus (phase_of (size_of P.modulus) P.dimension.0 ciphertext_of (secret_of key)) ≡ x
  decoded-accepted room e h =
      let no = passed (message_rows P key a es x room) e in
      opens_fresh (size_of P.modulus) (positive P.modulus (no 2 tt)) P.dimension.0 a (secret_of key) (mask_ok (length a) (error_count es) P.dimension.0 (lengths (message_rows P key a es x room) (sym e))) (meant_embedding g) P.plaintext_modulus x P.error_limit
      (error_at (size_of P.modulus) es 0) (message_ok _ x (no 16 tt)) h (within room e)

  pub opens : 2 * P.plaintext_modulus * P.error_limit + P.plaintext_modulus < size_of P.modulus
      → {before after : List ℕ} {tag : LweTag} {answer : Result ℕ Refusal} → EncryptsMessage P g key a es x before (Ok tag) after → Decrypts (decryption_of P) key after answer → answer ≡ Ok x
  opens h {before} {after} c d =
      let w = written c.writes in
      d.is
      ∙ told (decrypt_rows (decryption_of P) key after) _ (rw w.1 (decrypt_accepted (length before) w.0))
      ∙ ap Ok (rw w.1 (decoded-accepted (length before) w.0 h))

  -- "written, marked good, opened"
  pub opens_marked : {before after : List ℕ} {tag : LweTag} {answer : Result ℕ Refusal} → EncryptsMessage P g key a es x before (Ok tag) after
      → mark_answer tag P.modulus P.plaintext_modulus ≡ Ok true → Decrypts (decryption_of P) key after answer → answer ≡ Ok x
  opens_marked {before} c good d =
      let w = written c.writes in
      opens (marked_good P.error_limit P.modulus P.plaintext_modulus w.2 (passed (message_rows P key a es x (length before)) w.0 13 tt) good) c d

-- ---- a batch

module _ (P : LweParameters) (g : PlaintextEmbedding) (key : Key) (masks : List ℕ) (es : Errors) (xs : List ℕ) where
  abbrev ciphertexts : List ℕ
  ciphertexts = encrypted_rows (size_of P.modulus) P.dimension.0 (length xs) masks (secret_of key) (error_at (size_of P.modulus) es) (encodings g P xs)

  -- a row for each message, of words below q
  pub rows_fit : (room : ℕ) → refusal (encrypt_batch_rows P key masks es xs room) ≡ 0
      → (length ciphertexts ≡ length xs * (P.dimension.0 + 1)) × Below (size_of P.modulus) ciphertexts
  unfolding encrypted_rows
  rows_fit room e =
      let q = size_of P.modulus in
      let n = P.dimension.0 in
      let (positive, l) = batch_masks P g key masks es xs room e in
      let fourteen = others (error_words_fail q es) (key_fails q key) (words_fail q masks) (passed (encrypt_batch_rows P key masks es xs room) e 14 tt) in (
        rows-length _ (n + 1) (length xs) (λ i h. encrypted-row q n (length xs) i masks (secret_of key) (error_at (size_of P.modulus) es i) (encodings g P xs i) l h),
        rows-below q (length xs) _ (λ i h. encrypted-below q n positive _ (secret_of key) (error_at (size_of P.modulus) es i) (encodings g P xs i) (part_below q n masks i (words_ok q masks fourteen.1))),
      )

  -- the accepted error of row i is within ±E
  pub row_within_limit : (room : ℕ) → refusal (encrypt_batch_rows P key masks es xs room) ≡ 0 → (i : ℕ) → i < length xs → nat_abs (error_at (size_of P.modulus) es i) ≤ P.error_limit
  row_within_limit room e i k =
      let no = passed (encrypt_batch_rows P key masks es xs room) e in
      let few : error_count es ≡ length xs = length_ok _ _ (neither (length_fails (length masks) (length xs * P.dimension.0)) (length_fails (error_count es) (length xs)) (no 12 tt)).1 in
      omega (arith, magnitudes_ok (P.error_limit + 1) (error_values (size_of P.modulus) es) (no 15 tt) i (omega (arith, error_length (size_of P.modulus) es)))

  pub row-decoded : (room : ℕ) → refusal (encrypt_batch_rows P key masks es xs room) ≡ 0
      → 2 * P.plaintext_modulus * P.error_limit + P.plaintext_modulus < size_of P.modulus → (i : ℕ) → i < length xs
      → decode (size_of P.modulus) P.plaintext_modulus (batch_phase (size_of P.modulus) P.dimension.0 key ciphertexts i) ≡ get_or xs i 0
  row-decoded room e h i k =
      let q = size_of P.modulus in
      let n = P.dimension.0 in
      let (positive, l) = batch_masks P g key masks es xs room e in
      let no = passed (encrypt_batch_rows P key masks es xs room) e in
      rw (row-encrypted q n (length xs) i masks (secret_of key) (error_at (size_of P.modulus) es) (encodings g P xs) l k)
      (opens_fresh q positive n (take n (drop (i * n) masks)) (secret_of key) (row_mask n (length xs) i masks l k) (meant_embedding g) P.plaintext_modulus (get_or xs i 0) P.error_limit
      (error_at (size_of P.modulus) es i) (words_ok _ xs (no 16 tt) i k) h (row_within_limit room e i k))

  pub row-accepted : (room : ℕ) → refusal (encrypt_batch_rows P key masks es xs room) ≡ 0 → (i : ℕ) → i < length xs
      → refusal (decrypt_rows (decryption_of P) key (row_of P.dimension.0 ciphertexts i)) ≡ 0
  unfolding refusal first_in
  row-accepted room e i k =
      let q = size_of P.modulus in
      let n = P.dimension.0 in
      let no = passed (encrypt_batch_rows P key masks es xs room) e in
      let (len, below) = rows_fit room e in
      let ten : length_fails (length (row_of n ciphertexts i)) (n + 1) ≡ false = length_fit _ _ (part_length (n + 1) (length xs) ciphertexts i len k) in
      let words : words_fail q (row_of n ciphertexts i) ≡ false = words_fit q _ (part_below q (n + 1) ciphertexts i below) in
      rw (no 2 tt, no 6 tt, no 7 tt, no 8 tt, no 9 tt, ten, (others (error_words_fail q es) (key_fails q key) (words_fail q masks) (no 14 tt)).0, words)

  pub opens_row : 2 * P.plaintext_modulus * P.error_limit + P.plaintext_modulus < size_of P.modulus
      → {before after : List ℕ} {tag : LweTag} {answer : Result ℕ Refusal} → EncryptsBatch P g key masks es xs before (Ok tag) after → (i : ℕ) → i < length xs
      → Decrypts (decryption_of P) key (row_of P.dimension.0 after i) answer → answer ≡ Ok (get_or xs i 0)
  opens_row h {before} {after} c i k d =
      let w = written c.writes in
      d.is
      ∙ told (decrypt_rows (decryption_of P) key (row_of P.dimension.0 after i)) _ (rw w.1 (row-accepted (length before) w.0 i k))
      ∙ ap Ok (rw w.1 (row-decoded (length before) w.0 h i k))

  pub opens_row_marked : {before after : List ℕ} {tag : LweTag} {answer : Result ℕ Refusal} → EncryptsBatch P g key masks es xs before (Ok tag) after
      → mark_answer tag P.modulus P.plaintext_modulus ≡ Ok true → (i : ℕ) → i < length xs
      → Decrypts (decryption_of P) key (row_of P.dimension.0 after i) answer → answer ≡ Ok (get_or xs i 0)
  opens_row_marked {before} c good =
      let w = written c.writes in
      opens_row (marked_good P.error_limit P.modulus P.plaintext_modulus w.2 (passed (encrypt_batch_rows P key masks es xs (length before)) w.0 13 tt) good) c

  -- as many rows as messages
  count-is : (len n c : ℕ) → len ≡ c * (n + 1) → (len / (n + 1) ≡ c) × (batch_fails len n ≡ false)
  count-is len n c e = (
    ap (λ k. k / (n + 1)) e ∙ mul-div_cancel c (omega arith),
    ap not (eq-eqb (len % (n + 1)) 0 (ap (λ k. k % (n + 1)) e ∙ mul-mod_left c (n + 1))),
  )

  pub batch_opened : (room : ℕ) → refusal (encrypt_batch_rows P key masks es xs room) ≡ 0 → refusal (decrypt_batch_rows (decryption_of P) key ciphertexts (length xs)) ≡ 0
  unfolding refusal first_in
  batch_opened room e =
      let q = size_of P.modulus in
      let no = passed (encrypt_batch_rows P key masks es xs room) e in
      let (len, below) = rows_fit room e in
      let (count, ten) = count-is (length ciphertexts) P.dimension.0 (length xs) len in
      let eleven : length_fails (length xs) (length ciphertexts / (P.dimension.0 + 1)) ≡ false = length_fit _ _ (sym count) in
      rw (no 2 tt, no 6 tt, no 7 tt, no 8 tt, no 9 tt, ten, eleven, (others (error_words_fail q es) (key_fails q key) (words_fail q masks) (no 14 tt)).0, words_fit q ciphertexts below)

  pub opens_batch : 2 * P.plaintext_modulus * P.error_limit + P.plaintext_modulus < size_of P.modulus
      → {before after blank out : List ℕ} {tag : LweTag} {r : ℕ} → EncryptsBatch P g key masks es xs before (Ok tag) after → length blank ≡ length xs
      → DecryptsBatch (decryption_of P) key after blank r out → (r ≡ 0) × (out ≡ xs)
  opens_batch h {before} {after} {blank} c l d =
      let w = written c.writes in
      let f = rows_fit (length before) w.0 in
      let z : refusal (decrypt_batch_rows (decryption_of P) key after (length blank)) ≡ 0 = rw (w.1, l) (batch_opened (length before) w.0) in
      let (r, out) = settled d.writes z in (
        r,
        out
            ∙ ap (λ k. tabulate k (λ i. decode (size_of P.modulus) P.plaintext_modulus (batch_phase (size_of P.modulus) P.dimension.0 key after i)))
            (count-is (length after) P.dimension.0 (length xs) (rw w.1 f.0)).0
            ∙ tabulate_ext (length xs) _ (λ i. get_or xs i 0) (λ i k. rw w.1 (row-decoded (length before) w.0 h i k))
            ∙ sym (is_tabulate (length xs) (λ i. get_or xs i 0) xs refl (λ i k. refl)),
      )

  pub opens_batch_marked : {before after blank out : List ℕ} {tag : LweTag} {r : ℕ} → EncryptsBatch P g key masks es xs before (Ok tag) after
      → mark_answer tag P.modulus P.plaintext_modulus ≡ Ok true → length blank ≡ length xs
      → DecryptsBatch (decryption_of P) key after blank r out → (r ≡ 0) × (out ≡ xs)
  opens_batch_marked {before} c good =
      let w = written c.writes in
      opens_batch (marked_good P.error_limit P.modulus P.plaintext_modulus w.2 (passed (encrypt_batch_rows P key masks es xs (length before)) w.0 13 tt) good) c
