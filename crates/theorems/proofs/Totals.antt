-- Totals "formed by additions from single encryptions of messages under one secret, q and t", with the tags that the calls answer.
--     total_opens    one that is marked good opens to the sum of its messages modulo t, in whatever order they were added, with both embeddings
--                    mixed, and under keys of words or of signed numbers
--     total_counts   its c is how many encryptions it was formed of
-- Assumes nothing.
use mathlib.Core.Path.{◌≡◌, refl, sym, ap, ap₂, subst, ◌∙◌}
use mathlib.Core.Bool.{true, false}
use mathlib.Core.List.{List}
use Prim.Native.Nat.{ℕ, ◌+◌, ◌%◌, ◌<◌}
use native.Mathlib.Nat.{mod-lt}
use native.Mathlib.Omega.{arith}
use lib.IntN.{ℤ, pos, ◌+ℤ◌}
use lib.ListN.{length, get_or}
use Rattle.std.proofs.Common.{Result, Ok}
use Rattle.check_order.specs.declared.refusal.Refusal.{Refusal}
use Rattle.scheme.specs.Numbers.{Cong}
use Rattle.scheme.specs.Lwe.{Key, secret_of, key_length, phase_of, inner, add_words, row_of, Errors, error_count, error_at}
use Rattle.scheme.specs.Codec.{decode}
use Rattle.scheme.specs.Switch.{Below}
use Rattle.scheme.specs.Tally.{add_carried}
use Rattle.scheme.specs.Checks.{refusal, first_in, modulus_fails, dimension_fails, plaintext_fails, small_fails, key_fails, words_fail, length_fails, error_words_fail}
use Rattle.scheme.proofs.Residue.{residue_cong, cong_refl, cong_mul, cong_trans, cong_add}
use Rattle.scheme.proofs.Sums.{sum_cong}
use Rattle.scheme.proofs.Checks.{words_ok, message_ok, plaintext_ok}
use Rattle.scheme.proofs.Order.{passed}
use Rattle.scheme.proofs.InPlace.{length_zip, zip_at}
use Rattle.scheme.proofs.Rows.{part_length, part_below}
use Rattle.scheme.proofs.Lwe.{cong_sub, phase-sum}
use Rattle.scheme.proofs.Switch.{encrypted-length, encrypted-below}
use Rattle.scheme.proofs.Tally.{Carries, carried_fresh, carried_sum, carried_opens}
use Rattle.primus_reduce.specs.Ring.{meant, size_of}
use Rattle.primus_reduce.specs.declared.modulus.Modulus.{Modulus}
use Rattle.codec_words.specs.declared.embedding.PlaintextEmbedding.{PlaintextEmbedding}
use Rattle.codec_words.specs.Embedding.{meant_embedding}
use Rattle.lwe_tag.specs.declared.LweTag.{LweTag}
use Rattle.lwe_tag.specs.Answers.{carried_of, mark_answer}
use Rattle.lwe_tag.proofs.Laws.{tag_back}
use Rattle.primus_lattice.specs.declared.dimension.LweDimension.{LweDimension}
use Rattle.primus_lattice.specs.Answers.{Adds}
use Rattle.primus_lattice.proofs.Laws.{addable}
use Rattle.lwe_parameters.specs.declared.parameter.LweDecryptionParameters.{LweDecryptionParameters}
use Rattle.lwe_refusals.specs.Rows.{message_rows, decrypt_rows}
use Rattle.primus_lwe.specs.Answers.{encoded, encodings, EncryptsMessage, Decrypts}
use Rattle.primus_lwe.proofs.Laws.{positive, lengths, mask_ok}
use Rattle.lwe_batch_refusals.specs.Rows.{encrypt_batch_rows}
use Rattle.primus_lwe_batch.specs.Answers.{EncryptsBatch}
use Rattle.theorems.specs.Phases.{HasPhase}
use Rattle.theorems.specs.Formed.{IsSecret, within_limit, Formed, Single, Row, Sum, encryptions}
use Rattle.theorems.proofs.Calls.{written, told, words_fit, length_fit}
use Rattle.theorems.proofs.Encryption.{message_phase, batch_phase_lem}
use Rattle.theorems.proofs.Opening.{marked_carried, fresh_carried, others, within, row_within_limit, rows_fit}

-- a phase depends on the secret modulo q alone
phase_alike : (q n : ℕ) (x : List ℕ) (s u : ℕ → ℤ) → 0 < q → ((i : ℕ) → i < n → Cong q (s i) (u i)) → phase_of q n x s ≡ phase_of q n x u
unfolding phase_of inner
phase_alike q n x s u h same =
    residue_cong h (cong_sub (cong_refl q (pos (get_or x n 0))) (sum_cong q n _ _ (λ i k. cong_mul (cong_refl q (pos (get_or x i 0))) (same i k))))

-- the words of a sum
sum_below : (q : ℕ) (x y : List ℕ) → 0 < q → length x ≡ length y → Below q (add_words q x y)
sum_below q x y h l i k =
    let j : i < length x = omega (arith, length_zip (λ a b. (a + b) % q) x y l) in
    subst (λ w. w < q) (sym (zip_at (λ a b. (a + b) % q) x y i l j)) (mod-lt (get_or x i 0 + get_or y i 0) h)

module _ (n : LweDimension) (m : Modulus) (t : ℕ) (s : ℕ → ℤ) where
  abbrev q : ℕ
  q = size_of m

  -- what is known of a total: its phase is z modulo q, and z lies as near to q/t times the messages' sum as the tag says
  record Known (words : List ℕ) (tag : LweTag) (M : ℕ) : Type 0 where
    z : ℤ
    phase : HasPhase q n.0 words s z
    near : Carries q t (carried_of tag) M z
    whole : length words ≡ n.0 + 1
    below : Below q words
    two : modulus_fails (meant m) ≡ false
    six : dimension_fails n.0 ≡ false
    seven : plaintext_fails t ≡ false
    eight : small_fails t (meant m) ≡ false

  known_single : (E : ℕ) (g : PlaintextEmbedding) (key : Key) (a : List ℕ) (es : Errors) (x : ℕ) (before after : List ℕ) (tag : LweTag)
      → IsSecret (size_of m) n.0 s key → EncryptsMessage (within_limit n m t E) g key a es x before (Ok tag) after → Known after tag x
  known_single E g key a es x before after tag k c =
      let P = within_limit n m t E in
      let w = written c.writes in
      let no = passed (message_rows P key a es x (length before)) w.0 in
      let h = positive m (no 2 tt) in
      let e = error_at q es 0 in
      let masked = others (error_words_fail q es) (key_fails q key) (words_fail q a) (no 14 tt) in
      let each = mask_ok (length a) (error_count es) n.0 (lengths (message_rows P key a es x (length before)) (sym w.0)) in
      record {
        z = encoded g P x +ℤ e;
        phase = subst (λ p. Cong q (pos p) (encoded g P x +ℤ e)) (phase_alike q n.0 after (secret_of key) s h k) (message_phase P g key a es x c);
        near =
            subst (λ c. Carries q t c x (encoded g P x +ℤ e)) (sym (fresh_carried q E w.2 (no 13 tt)))
            (carried_fresh (meant_embedding g) q t x E e (message_ok _ x (no 16 tt)) (within P g key a es x (length before) w.0));
        whole = ap length w.1 ∙ encrypted-length q n.0 a (secret_of key) e (encoded g P x) ∙ ap (λ k. k + 1) each;
        below = subst (Below q) (sym w.1) (encrypted-below q n.0 h a (secret_of key) e (encoded g P x) (words_ok q a masked.1));
        two = no 2 tt;
        six = no 6 tt;
        seven = no 7 tt;
        eight = no 8 tt;
      }

  known_row : (E : ℕ) (g : PlaintextEmbedding) (key : Key) (masks : List ℕ) (es : Errors) (xs before after : List ℕ) (tag : LweTag) (i : ℕ)
      → IsSecret (size_of m) n.0 s key → EncryptsBatch (within_limit n m t E) g key masks es xs before (Ok tag) after → i < length xs
      → Known (row_of n.0 after i) tag (get_or xs i 0)
  known_row E g key masks es xs before after tag i k c l =
      let P = within_limit n m t E in
      let w = written c.writes in
      let no = passed (encrypt_batch_rows P key masks es xs (length before)) w.0 in
      let h = positive m (no 2 tt) in
      let z = encodings g P xs i +ℤ error_at q es i in
      let fit = rows_fit P g key masks es xs (length before) w.0 in
      record {
        z = z;
        phase = subst (λ p. Cong q (pos p) z) (phase_alike q n.0 (row_of n.0 after i) (secret_of key) s h k) (batch_phase_lem P g key masks es xs c i l);
        near =
            subst (λ c. Carries q t c (get_or xs i 0) z) (sym (fresh_carried q E w.2 (no 13 tt)))
            (carried_fresh (meant_embedding g) q t (get_or xs i 0) E (error_at q es i) (words_ok _ xs (no 16 tt) i l) (row_within_limit P g key masks es xs (length before) w.0 i l));
        whole = rw w.1 (part_length (n.0 + 1) (length xs) _ i fit.0 l);
        below = rw w.1 (part_below q (n.0 + 1) _ i fit.1);
        two = no 2 tt;
        six = no 6 tt;
        seven = no 7 tt;
        eight = no 8 tt;
      }

  known_sum : (x y : List ℕ) (g h : LweTag) (M N : ℕ) (after : List ℕ) (tag : LweTag) → Known x g M → Known y h N → Adds m n x g y h (Ok tag) after → Known after tag (M + N)
  known_sum x y g h M N after tag u v c =
      let w = written c.writes in
      let ok = addable m n.0 x g y h (sym w.0) in
      let p = positive m u.two in
      record {
        z = u.z +ℤ v.z;
        phase = rw w.1 (cong_trans (phase-sum q p n.0 x y s u.whole v.whole) (cong_add u.phase v.phase));
        near =
            subst (λ c. Carries q t c (M + N) (u.z +ℤ v.z)) (sym (ap carried_of w.2 ∙ tag_back (add_carried (carried_of g) (carried_of h)) ok.sums))
            (carried_sum q t (carried_of g) (carried_of h) M N u.z v.z u.near v.near);
        whole = ap length w.1 ∙ length_zip (λ a b. (a + b) % q) x y ok.same ∙ u.whole;
        below = subst (Below q) (sym w.1) (sum_below q x y p ok.same);
        two = u.two;
        six = u.six;
        seven = u.seven;
        eight = u.eight;
      }

  known : {words : List ℕ} {tag : LweTag} {M : ℕ} → Formed n m t s words tag M → Known words tag M
  known (Single E g key a es x before after tag k c) = known_single E g key a es x before after tag k c
  known (Row E g key masks es xs before after tag i k c l) = known_row E g key masks es xs before after tag i k c l
  known (Sum x y g h M N after tag u v c) = known_sum x y g h M N after tag (known u) (known v) c

  abbrev opening : LweDecryptionParameters
  opening = record { dimension = n; modulus = m; plaintext_modulus = t }

  -- no number applies to it, under a key that is in order
  accepted : {words : List ℕ} {tag : LweTag} {M : ℕ} → Known words tag M → (key : Key) → key_length key ≡ n.0 → key_fails (size_of m) key ≡ false
      → refusal (decrypt_rows opening key words) ≡ 0
  unfolding refusal first_in
  accepted {words} k key l keyed =
      let nine : length_fails (key_length key) n.0 ≡ false = length_fit _ _ l in
      let ten : length_fails (length words) (n.0 + 1) ≡ false = length_fit _ _ k.whole in
      rw (k.two, k.six, k.seven, k.eight, nine, ten, keyed, words_fit q words k.below) refl

  pub total_opens : {words : List ℕ} {tag : LweTag} {M : ℕ} → Formed n m t s words tag M → mark_answer tag m t ≡ Ok true
      → (key : Key) → IsSecret (size_of m) n.0 s key → key_length key ≡ n.0 → key_fails (size_of m) key ≡ false
      → {answer : Result ℕ Refusal} → Decrypts (record { dimension = n; modulus = m; plaintext_modulus = t }) key words answer → answer ≡ Ok (M % t)
  total_opens {words} {tag} {M} f mark key same l keyed d =
      let k = known f in
      let opened = phase_alike q n.0 words (secret_of key) s (positive m k.two) same in
      d.is
      ∙ told (decrypt_rows opening key words) _ (accepted k key l keyed)
      ∙ ap (λ p. Ok (decode q t p)) opened
      ∙ ap Ok (carried_opens q t (carried_of tag) M _ k.z (omega (arith, plaintext_ok t k.seven)) (marked_carried m t tag _ refl mark) k.near k.phase)

  pub total_counts : {words : List ℕ} {tag : LweTag} {M : ℕ} (f : Formed n m t s words tag M) → tag.count ≡ encryptions f
  total_counts (Single E g key a es x before after tag k c) = ap (λ (g : LweTag). g.count) (written c.writes).2
  total_counts (Row E g key masks es xs before after tag i k c l) = ap (λ (g : LweTag). g.count) (written c.writes).2
  total_counts (Sum x y g h M N after tag u v c) = ap (λ (g : LweTag). g.count) (written c.writes).2 ∙ ap₂ ◌+◌ (total_counts u) (total_counts v)
