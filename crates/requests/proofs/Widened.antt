-- T-10, of the calls that take t: "Calls answered before keep their answers".
--     …_widened        each call's table: only a 7 for t above 65,536 has gone
--     …_alike          each call's promise, beside what the call did before: the same answer, tag and number, and the same words
--     number_alike     the number that C gets for a phase; encoded_alike: for a message; marked_alike: for a mark
--     any_t_served     a codec is made of any t from 2 up to q − 1
-- A call "before" has the promise that it has now, with 7 of document 01 among its checks (`with_limit`), so 7 applied just where document 01
-- says (`limit_is`). All that is asked of it is `Unless`: it gave no 7 for a t above 65,536.
-- Assumes nothing.
use mathlib.Core.Path.{◌≡◌, refl, sym, ap, ◌∙◌}
use mathlib.Core.Bool.{Bool, true, false, ◌||◌}
use mathlib.Core.List.{List}
use Prim.Native.Nat.{ℕ, ◌≤◌, ◌<◌}
use lib.Dec.{eqb, ltb}
use lib.IntN.{ℤ}
use lib.ListN.{length}
use borrow.Author.Tests.{eqb-true, eqb-false}
use Rattle.std.proofs.Common.{Result, Ok, Err}
use Rattle.scheme.specs.Numbers.{pick}
use Rattle.scheme.specs.Lwe.{Key, secret_of, phase_of, add_words, Errors}
use Rattle.scheme.specs.Codec.{decode}
use Rattle.scheme.specs.Tally.{good}
use Rattle.scheme.specs.Checks.{Check, applies, refusal, first_in, modulus_fails, plaintext_fails, small_fails, Writes}
use Rattle.scheme.specs.Widened.{plaintext_failed, with_limit, Widened}
use Rattle.scheme.proofs.Checks.{any_t}
use Rattle.scheme.proofs.Widened.{widened}
use Rattle.primus_reduce.specs.Ring.{meant, size_of, modulus_for}
use Rattle.primus_reduce.specs.declared.modulus.Modulus.{Modulus}
use Rattle.check_order.specs.declared.refusal.Refusal.{Refusal}
use Rattle.check_order.specs.Answer.{answer, code_of, refusal_for}
use Rattle.check_order.proofs.Answers.{accepted, code_is}
use Rattle.codec_words.specs.Words.{rows}
use Rattle.codec_words.specs.declared.embedding.PlaintextEmbedding.{PlaintextEmbedding}
use Rattle.codec_words.specs.Embedding.{encode_word}
use Rattle.primus_encoding.specs.declared.rounded.RoundedCodec.{RoundedCodec}
use Rattle.primus_encoding.specs.Answers.{codec_answer, encode_rows, encode_answer, decode_rows, decode_answer, add_rows, add_word, add_answer}
use Rattle.primus_encoding.specs.Answers.{encode_slice_rows, decode_slice_rows, add_slice_rows, EncodesSlice, DecodesSlice, AddsEncodings}
use Rattle.lwe_tag.specs.declared.LweTag.{LweTag}
use Rattle.lwe_tag.specs.Answers.{WritesTagged, carried_of, mark_rows, mark_answer}
use Rattle.lwe_parameters.specs.declared.parameter.LweDecryptionParameters.{LweDecryptionParameters}
use Rattle.lwe_parameters.specs.declared.parameter.LweParameters.{LweParameters}
use Rattle.lwe_parameters.specs.Answers.{parameters_rows, parameters_answer}
use Rattle.lwe_refusals.specs.Rows.{message_rows, decrypt_rows}
use Rattle.lwe_batch_refusals.specs.Rows.{encrypt_batch_rows, decrypt_batch_rows}
use Rattle.lwe_packed_refusals.specs.Rows.{packed_message_rows, packed_decrypt_rows}
use Rattle.primus_lwe.specs.Answers.{EncryptsMessage, Decrypts}
use Rattle.primus_lwe_batch.specs.Answers.{EncryptsBatch, DecryptsBatch}
use Rattle.primus_lwe_packed.specs.Answers.{EncryptsPackedMessages, DecryptsPacked}
use Rattle.primus_lwe_public_key.specs.Answers.{public_message_rows, EncryptsPublicMessage}
use Rattle.saved_head.specs.declared.head.Head.{Head}
use Rattle.saved_head.specs.Head.{head_of}
use Rattle.saved.specs.Layout.{file_words}
use Rattle.pooling_rows.specs.Rows.{add_tags, saved_tags}
use Rattle.pooling_refusals.specs.Rows.{begin_rows, total_rows, file_refusal}
use Rattle.pooling.specs.Total.{BeginsSaved, AddsSaved}
use Rattle.c_answers.specs.Service.{word_number, mark_number}
use Rattle.c_numbers.specs.Numbers.{embedding_for}
use Rattle.c_numbers.specs.Service.{decode_number, encode_number}
use Rattle.c_numbers.proofs.Service.{message_of}

pub limit_is : (t : ℕ) (rows : List Check) → applies rows 7 ≡ plaintext_fails t → applies (with_limit t rows) 7 ≡ plaintext_failed t
limit_is t rows e = ap (λ b. b || plaintext_failed t) e ∙ once (ltb t 2) (ltb 65536 t)
  where
    once : (a b : Bool) → (a || (a || b)) ≡ (a || b)
    once true b = refl
    once false b = refl

-- ---- what a call did before

-- it did not give 7 for a t above 65,536
abbrev pub Unless : ℕ → ℕ → Type 0
Unless t k = k ≡ 7 → t ≤ 65536

-- what it answered
abbrev pub answer_before : {A : Type 0} → ℕ → List Check → A → Result A Refusal
answer_before t rows x = answer (with_limit t rows) x

-- that it left this number and these words, or this answer and these words, where now its promise is the given one
abbrev pub Left : (t : ℕ) {A : Type 0} {rows : List Check} {result before now : List A} {n : ℕ} → Writes rows result before n now → ℕ → List A → Type 0
Left t {rows = rows} {result = result} {before = before} v r after = Writes (with_limit t rows) result before r after

abbrev pub LeftTagged : (t : ℕ) {rows : List Check} {tag : LweTag} {result before now : List ℕ} {a : Result LweTag Refusal}
    → WritesTagged rows tag result before a now → Result LweTag Refusal → List ℕ → Type 0
LeftTagged t {rows = rows} {tag = tag} {result = result} {before = before} v r after = WritesTagged (with_limit t rows) tag result before r after

-- ---- of any call that takes t

module _ {t : ℕ} {rows : List Check} (w : Widened t rows) where
  pub number_same : Unless t (refusal (with_limit t rows)) → refusal rows ≡ refusal (with_limit t rows)
  number_same h = go (eqb (refusal (with_limit t rows)) 7) refl
    where
      go : (b : Bool) → eqb (refusal (with_limit t rows)) 7 ≡ b → refusal rows ≡ refusal (with_limit t rows)
      go true e = w.within (h (eqb-true _ 7 e))
      go false e = w.kept (eqb-false _ 7 e)

  pub answer_same : {A : Type 0} (x : A) → Unless t (code_of (answer_before t rows x)) → answer rows x ≡ answer_before t rows x
  unfolding answer
  answer_same x h =
      ap (λ r. pick (eqb r 0) (Ok x) (Err (refusal_for r))) (number_same (λ z. h (code_is (with_limit t rows) x ∙ z)))

  pub writes_same : {A : Type 0} {result before after now : List A} {n r : ℕ} (v : Writes rows result before n now) → Left t v r after → Unless t r
      → (n ≡ r) × (now ≡ after)
  writes_same {result = result} {before = before} v u h =
      let e = number_same (λ z. h (u.answered ∙ z)) in
      (v.answered ∙ e ∙ sym u.answered, v.holds ∙ ap (λ k. pick (eqb k 0) result before) e ∙ sym u.holds)

  pub tagged_same : {tag : LweTag} {result before after now : List ℕ} {a r : Result LweTag Refusal} (v : WritesTagged rows tag result before a now)
      → LeftTagged t v r after → Unless t (code_of r) → (a ≡ r) × (now ≡ after)
  tagged_same {tag = tag} {result = result} {before = before} v u h =
      let k : Unless t (code_of (answer_before t rows tag)) = λ z. h (ap code_of u.answered ∙ z) in
      let e = number_same (λ z. k (code_is (with_limit t rows) tag ∙ z)) in (
        v.answered ∙ answer_same tag k ∙ sym u.answered,
        v.holds ∙ ap (λ j. pick (eqb j 0) result before) e ∙ sym u.holds,
      )

  pub file_same : Unless t (file_refusal (with_limit t rows)) → file_refusal rows ≡ file_refusal (with_limit t rows)
  unfolding file_refusal
  file_same h = go (applies rows 19) _ _ number_same h
    where
      go : (b : Bool) (x y : ℕ) → (Unless t y → x ≡ y) → Unless t (pick b 19 y) → pick b 19 x ≡ pick b 19 y
      go true x y f h = refl
      go false x y f h = f h

-- ---- the codec: `RoundedCodec::try_new`, `encode_value`, `decode_value`, `add_encode_value_assign`, and their slices

module _ (t : ℕ) (m : Modulus) where
  pub codec_widened : Widened t (rows t m)
  codec_widened = widened t _ refl

  pub encode_widened : (x : ℕ) → Widened t (encode_rows t m x)
  encode_widened x = widened t _ refl

  pub decode_widened : (p : ℕ) → Widened t (decode_rows t m p)
  decode_widened p = widened t _ refl

  pub add_widened : (a x : ℕ) → Widened t (add_rows t m a x)
  add_widened a x = widened t _ refl

  pub encode_slice_widened : (xs : List ℕ) (room : ℕ) → Widened t (encode_slice_rows t m xs room)
  encode_slice_widened xs room = widened t _ refl

  pub decode_slice_widened : (xs : List ℕ) (room : ℕ) → Widened t (decode_slice_rows t m xs room)
  decode_slice_widened xs room = widened t _ refl

  pub add_slice_widened : (acc xs : List ℕ) → Widened t (add_slice_rows t m acc xs)
  add_slice_widened acc xs = widened t _ refl

  abbrev codec : RoundedCodec
  codec = record { plaintext_modulus = t; ciphertext_modulus = m }

  pub codec_alike : Unless t (code_of (answer_before t (rows t m) codec)) → codec_answer t m ≡ answer_before t (rows t m) codec
  codec_alike h = answer_same codec_widened codec h

  pub encode_alike : (e : PlaintextEmbedding) (x : ℕ) → let was = answer_before t (encode_rows t m x) (encode_word e (size_of m) t x) in
      Unless t (code_of was) → encode_answer t m e x ≡ was
  encode_alike e x h = answer_same (encode_widened x) _ h

  pub decode_alike : (p : ℕ) → let was = answer_before t (decode_rows t m p) (decode (size_of m) t p) in
      Unless t (code_of was) → decode_answer t m p ≡ was
  decode_alike p h = answer_same (decode_widened p) _ h

  pub add_alike : (e : PlaintextEmbedding) (a x : ℕ) → let was = answer_before t (add_rows t m a x) (add_word e (size_of m) t a x) in
      Unless t (code_of was) → add_answer t m e a x ≡ was
  add_alike e a x h = answer_same (add_widened a x) _ h

  module _ {xs before after now : List ℕ} {n r : ℕ} where
    pub encode_slice_alike : {e : PlaintextEmbedding} (v : EncodesSlice t m e xs before n now) → Left t v.writes r after → Unless t r → (n ≡ r) × (now ≡ after)
    encode_slice_alike v u h = writes_same (encode_slice_widened xs (length before)) v.writes u h

    pub decode_slice_alike : (v : DecodesSlice t m xs before n now) → Left t v.writes r after → Unless t r → (n ≡ r) × (now ≡ after)
    decode_slice_alike v u h = writes_same (decode_slice_widened xs (length before)) v.writes u h

    pub add_slice_alike : {e : PlaintextEmbedding} (v : AddsEncodings t m e xs before n now) → Left t v.writes r after → Unless t r → (n ≡ r) × (now ≡ after)
    add_slice_alike v u h = writes_same (add_slice_widened before xs) v.writes u h

none_applies : (t : ℕ) (m : Modulus) → modulus_fails (meant m) ≡ false → (plaintext_fails t ≡ false) × (small_fails t (meant m) ≡ false) → refusal (rows t m) ≡ 0
unfolding refusal first_in
none_applies t m e a = rw (e, a.0, a.1)

-- "Any t from 2 up to q − 1 is served; native q allows t up to 2^32 − 1"
pub any_t_served : (t : ℕ) (m : Modulus) → modulus_fails (meant m) ≡ false → 2 ≤ t → t < size_of m → codec_answer t m ≡ Ok (codec t m)
any_t_served t m e h l = accepted (rows t m) (codec t m) (none_applies t m e (any_t 32 t (meant m) h l))

-- ---- the mark: `LweTag::is_good`

module _ (g : LweTag) (m : Modulus) (t : ℕ) where
  pub mark_widened : Widened t (mark_rows g m t)
  mark_widened = widened t _ refl

  pub mark_alike : let was = answer_before t (mark_rows g m t) (good (size_of m) t (carried_of g)) in Unless t (code_of was) → mark_answer g m t ≡ was
  mark_alike h = answer_same mark_widened _ h

  pub marked_alike : let was = answer_before t (mark_rows g m t) (good (size_of m) t (carried_of g)) in
      Unless t (code_of was) → mark_number (mark_answer g m t) ≡ mark_number was
  marked_alike h = ap mark_number (mark_alike h)

-- ---- the number that C gets for a phase p, and for a message x

pub number_alike : (n t p : ℕ) → let was = answer_before t (decode_rows t (modulus_for n) p) (message_of n t p) in
    Unless t (code_of was) → decode_number n t p ≡ word_number was
number_alike n t p h = ap word_number (decode_alike t (modulus_for n) p h)

pub encoded_alike : (n t c x : ℕ) → let was = answer_before t (encode_rows t (modulus_for n) x) (encode_word (embedding_for c) (size_of (modulus_for n)) t x) in
    Unless t (code_of was) → encode_number n t c x ≡ word_number was
encoded_alike n t c x h = ap word_number (encode_alike t (modulus_for n) (embedding_for c) x h)

-- ---- encryptions of messages: `LweParameters::try_new`, then a message, a batch, packed ones, and one under a public key

module _ (P : LweParameters) where
  pub parameters_widened : Widened P.plaintext_modulus (parameters_rows P)
  parameters_widened = widened _ _ refl

  pub message_widened : (key : Key) (a : List ℕ) (es : Errors) (x room : ℕ) → Widened P.plaintext_modulus (message_rows P key a es x room)
  message_widened key a es x room = widened _ _ refl

  pub batch_widened : (key : Key) (masks : List ℕ) (es : Errors) (xs : List ℕ) (room : ℕ) → Widened P.plaintext_modulus (encrypt_batch_rows P key masks es xs room)
  batch_widened key masks es xs room = widened _ _ refl

  pub packed_widened : (s a : List ℕ) (es : Errors) (xs : List ℕ) (room : ℕ) → Widened P.plaintext_modulus (packed_message_rows P s a es xs room)
  packed_widened s a es xs room = widened _ _ refl

  pub public_widened : (key : List ℕ) (es : Errors) (rs : List ℤ) (x room : ℕ) → Widened P.plaintext_modulus (public_message_rows P key es rs x room)
  public_widened key es rs x room = widened _ _ refl

  pub parameters_alike : let was = answer_before P.plaintext_modulus (parameters_rows P) P in
      Unless P.plaintext_modulus (code_of was) → parameters_answer P ≡ was
  parameters_alike h = answer_same parameters_widened P h

  module _ {g : PlaintextEmbedding} {es : Errors} {before after now : List ℕ} {b r : Result LweTag Refusal} where
    pub message_alike : {key : Key} {a : List ℕ} {x : ℕ} (v : EncryptsMessage P g key a es x before b now) → LeftTagged P.plaintext_modulus v.writes r after
        → Unless P.plaintext_modulus (code_of r) → (b ≡ r) × (now ≡ after)
    message_alike {key} {a} {x} v u h = tagged_same (message_widened key a es x (length before)) v.writes u h

    pub batch_alike : {key : Key} {masks xs : List ℕ} (v : EncryptsBatch P g key masks es xs before b now) → LeftTagged P.plaintext_modulus v.writes r after
        → Unless P.plaintext_modulus (code_of r) → (b ≡ r) × (now ≡ after)
    batch_alike {key} {masks} {xs} v u h = tagged_same (batch_widened key masks es xs (length before)) v.writes u h

    pub packed_alike : {s a xs : List ℕ} (v : EncryptsPackedMessages P g s a es xs before b now) → LeftTagged P.plaintext_modulus v.writes r after
        → Unless P.plaintext_modulus (code_of r) → (b ≡ r) × (now ≡ after)
    packed_alike {s} {a} {xs} v u h = tagged_same (packed_widened s a es xs (length before)) v.writes u h

    pub public_alike : {key : List ℕ} {rs : List ℤ} {x : ℕ} (v : EncryptsPublicMessage P g key es rs x before b now) → LeftTagged P.plaintext_modulus v.writes r after
        → Unless P.plaintext_modulus (code_of r) → (b ≡ r) × (now ≡ after)
    public_alike {key} {rs} {x} v u h = tagged_same (public_widened key es rs x (length before)) v.writes u h

-- ---- openings of messages

module _ (P : LweDecryptionParameters) where
  pub decrypt_widened : (key : Key) (x : List ℕ) → Widened P.plaintext_modulus (decrypt_rows P key x)
  decrypt_widened key x = widened _ _ refl

  pub decrypt_batch_widened : (key : Key) (x : List ℕ) (room : ℕ) → Widened P.plaintext_modulus (decrypt_batch_rows P key x room)
  decrypt_batch_widened key x room = widened _ _ refl

  pub decrypt_packed_widened : (s x : List ℕ) (room : ℕ) → Widened P.plaintext_modulus (packed_decrypt_rows P s x room)
  decrypt_packed_widened s x room = widened _ _ refl

  pub decrypt_alike : (key : Key) (x : List ℕ) {a : Result ℕ Refusal} → Decrypts P key x a
      → let phase = phase_of (size_of P.modulus) P.dimension.0 x (secret_of key) in
      let was = answer_before P.plaintext_modulus (decrypt_rows P key x) (decode (size_of P.modulus) P.plaintext_modulus phase) in
      Unless P.plaintext_modulus (code_of was) → a ≡ was
  decrypt_alike key x v h = v.is ∙ answer_same (decrypt_widened key x) _ h

  module _ {x before after now : List ℕ} {n r : ℕ} where
    pub decrypt_batch_alike : {key : Key} (v : DecryptsBatch P key x before n now) → Left P.plaintext_modulus v.writes r after → Unless P.plaintext_modulus r
        → (n ≡ r) × (now ≡ after)
    decrypt_batch_alike {key} v u h = writes_same (decrypt_batch_widened key x (length before)) v.writes u h

    pub decrypt_packed_alike : {s : List ℕ} (v : DecryptsPacked P s x before n now) → Left P.plaintext_modulus v.writes r after → Unless P.plaintext_modulus r
        → (n ≡ r) × (now ≡ after)
    decrypt_packed_alike {s} v u h = writes_same (decrypt_packed_widened s x (length before)) v.writes u h

-- ---- a saved file, beginning a total and beside one: `begin_saved`, `add_saved`. 19 comes first, and is what it was

module _ (p : LweDecryptionParameters) (s xs : List ℕ) (ts : List LweTag) where
  pub begin_widened : (h : Head) → Widened p.plaintext_modulus (begin_rows p h s (length xs) (length ts))
  begin_widened h = widened _ _ refl

  pub total_widened : (h : Head) → Widened p.plaintext_modulus (total_rows p h s xs ts)
  total_widened h = widened _ _ refl

  pub begin_alike : {r : ℕ} {words : List ℕ} {tags : List LweTag} → BeginsSaved p s xs ts r words tags
      → let was = file_refusal (with_limit p.plaintext_modulus (begin_rows p (head_of s) s (length xs) (length ts))) in Unless p.plaintext_modulus was
      → (r ≡ was) × (words ≡ pick (eqb was 0) (file_words s (length xs)) xs) × (tags ≡ pick (eqb was 0) (saved_tags (length ts) s) ts)
  begin_alike v h =
      let e = file_same (begin_widened (head_of s)) h in (
        v.answered ∙ e,
        v.begins ∙ ap (λ k. pick (eqb k 0) (file_words s (length xs)) xs) e,
        v.tagged ∙ ap (λ k. pick (eqb k 0) (saved_tags (length ts) s) ts) e,
      )

  pub total_alike : {r : ℕ} {words : List ℕ} {tags : List LweTag} → AddsSaved p s xs ts r words tags
      → let was = file_refusal (with_limit p.plaintext_modulus (total_rows p (head_of s) s xs ts)) in Unless p.plaintext_modulus was
      → (r ≡ was) × (words ≡ pick (eqb was 0) (add_words (size_of p.modulus) xs (file_words s (length xs))) xs)
      × (tags ≡ pick (eqb was 0) (add_tags ts s) ts)
  total_alike v h =
      let e = file_same (total_widened (head_of s)) h in (
        v.answered ∙ e,
        v.adds ∙ ap (λ k. pick (eqb k 0) (add_words (size_of p.modulus) xs (file_words s (length xs))) xs) e,
        v.tagged ∙ ap (λ k. pick (eqb k 0) (add_tags ts s) ts) e,
      )
