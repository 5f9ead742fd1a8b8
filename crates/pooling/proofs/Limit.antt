-- What the calls do with the E of a file's head, bytes 36 to 39: nothing. Files of one length that agree in every other byte are answered
-- alike, and leave the same words and tags.
--     limit_unread          of add_saved
--     limit_unread_first    of begin_saved
-- Assumes nothing.
use mathlib.Core.Path.{◌≡◌, refl, ap, ap₂, ◌∙◌}
use mathlib.Core.Bool.{Bool, not, ◌&&◌}
use mathlib.Core.List.{List, [], ◌∷◌, ◌++◌}
use Prim.Native.Nat.{ℕ, ◌+◌, ◌*◌, ◌^◌, ◌≤◌, ◌<◌}
use native.Mathlib.Omega.{arith}
use lib.ListN.{length, get_or}
use Rattle.scheme.specs.Numbers.{tabulate}
use Rattle.scheme.specs.Checks.{Check, applies, all_of}
use Rattle.scheme.proofs.Lists.{tabulate_ext}
use Rattle.little_endian.specs.Bytes.{word32, word64}
use Rattle.lwe_tag.specs.Answers.{tag_fails, tag_rows}
use Rattle.lwe_tag.specs.declared.LweTag.{LweTag}
use Rattle.saved_head.specs.Head.{head_of}
use Rattle.saved.specs.Layout.{tallies_start, counts_start, file_word, file_words, saved_tag}
use Rattle.lwe_parameters.specs.declared.parameter.LweDecryptionParameters.{LweDecryptionParameters}
use Rattle.pooling_rows.specs.Rows.{place_tag, added_tag, place_sum, place_fails, places_fail, saved_fail, add_tags, saved_tags}
use Rattle.pooling_refusals.specs.Rows.{own_rows, size_rows, file_refusal, begin_refusal, total_refusal}
use Rattle.pooling.specs.Total.{BeginsSaved, AddsSaved}

all_ext : (f g : ℕ → Bool) (xs : List ℕ) → ((i : ℕ) → f i ≡ g i) → all_of f xs ≡ all_of g xs
unfolding all_of
all_ext f g [] h = refl
all_ext f g (x ∷ xs) h = ap₂ ◌&&◌ (h x) (all_ext f g xs h)

module _ (s u : List ℕ) (len : length s ≡ length u) (before : (k : ℕ) → k < 36 → get_or s k 0 ≡ get_or u k 0)
    (behind : (k : ℕ) → 40 ≤ k → get_or s k 0 ≡ get_or u k 0) where
  early : (i : ℕ) → i + 3 < 36 → word32 s i ≡ word32 u i
  unfolding word32
  early i h = rw (before i (omega arith), before (i + 1) (omega arith), before (i + 2) (omega arith), before (i + 3) (omega arith)) refl

  late : (i : ℕ) → 40 ≤ i → word32 s i ≡ word32 u i
  unfolding word32
  late i h = rw (behind i (omega arith), behind (i + 1) (omega arith), behind (i + 2) (omega arith), behind (i + 3) (omega arith)) refl

  late64 : (i : ℕ) → 40 ≤ i → word64 s i ≡ word64 u i
  unfolding word64
  late64 i h = ap₂ (λ x y. x + 2 ^ 32 * y) (late i h) (late (i + 4) (omega arith))

  signature : word64 s 0 ≡ word64 u 0
  unfolding word64
  signature = ap₂ (λ x y. x + 2 ^ 32 * y) (early 0 (omega arith)) (early 4 (omega arith))

  words_same : (k : ℕ) → file_words s k ≡ file_words u k
  words_same k = tabulate_ext k (file_word s) (file_word u) (λ i h. late (64 + 4 * i) (omega arith))

  tag_same : (i : ℕ) → saved_tag s i ≡ saved_tag u i
  tag_same i =
      rw (
        late 48 (omega arith),
        late 44 (omega arith),
        late 40 (omega arith),
        late64 (tallies_start u + 8 * i) (omega arith),
        late (counts_start u + 4 * i) (omega arith),
      )

  places_fail_same : (ts : List LweTag) → places_fail ts s ≡ places_fail ts u
  unfolding places_fail
  places_fail_same ts =
      ap not
      (all_ext (λ i. not (place_fails ts s i)) (λ i. not (place_fails ts u i)) (tabulate (length ts) (λ i. i))
      (λ i. ap (λ g. not (applies (tag_rows (place_tag ts i) g) 17)) (tag_same i)))

  saved_fail_same : (k : ℕ) → saved_fail k s ≡ saved_fail k u
  unfolding saved_fail
  saved_fail_same k =
      ap not
      (all_ext (λ i. not (tag_fails (saved_tag s i))) (λ i. not (tag_fails (saved_tag u i))) (tabulate k (λ i. i))
      (λ i. ap (λ g. not (tag_fails g)) (tag_same i)))

  add_same : (ts : List LweTag) → add_tags ts s ≡ add_tags ts u
  add_same ts = tabulate_ext (length ts) (place_sum ts s) (place_sum ts u) (λ i h. ap (added_tag (place_tag ts i)) (tag_same i))

  saved_same : (k : ℕ) → saved_tags k s ≡ saved_tags k u
  saved_same k = tabulate_ext k (saved_tag s) (saved_tag u) (λ i h. tag_same i)

  module _ (p : LweDecryptionParameters) (xs : List ℕ) (ts : List LweTag) where
    -- what a file is judged by beside its words and tags
    abbrev judged : List ℕ → ℕ → ℕ → List Check
    judged file width places = own_rows p (head_of file) file ++ size_rows p (head_of file) width places

    judged_same : judged s (length xs) (length ts) ≡ judged u (length xs) (length ts)
    unfolding head_of
    judged_same =
        rw (
          len,
          signature,
          early 8 (omega arith),
          early 12 (omega arith),
          early 16 (omega arith),
          early 32 (omega arith),
          late 40 (omega arith),
          late 44 (omega arith),
          late 48 (omega arith),
          late64 52 (omega arith),
          late 60 (omega arith),
        )

    total_same : total_refusal p s xs ts ≡ total_refusal p u xs ts
    unfolding head_of
    total_same =
        ap₂ (λ first rest. file_refusal (first ++ rest)) judged_same
        (rw (late 44 (omega arith), words_same (word32 u 44), places_fail_same ts))

    begin_same : begin_refusal p s (length xs) (length ts) ≡ begin_refusal p u (length xs) (length ts)
    unfolding head_of
    begin_same =
        ap₂ (λ first rest. file_refusal (first ++ rest)) judged_same
        (rw (late 44 (omega arith), words_same (word32 u 44), saved_fail_same (length ts)))

    pub limit_unread : {r : ℕ} {words : List ℕ} {tags : List LweTag} → AddsSaved p s xs ts r words tags → AddsSaved p u xs ts r words tags
    limit_unread a =
        record {
          answered = a.answered ∙ total_same;
          adds = a.adds ∙ rw (total_same, words_same (length xs));
          tagged = a.tagged ∙ rw (total_same, add_same ts);
        }

    pub limit_unread_first : {r : ℕ} {words : List ℕ} {tags : List LweTag} → BeginsSaved p s xs ts r words tags → BeginsSaved p u xs ts r words tags
    limit_unread_first a =
        record {
          answered = a.answered ∙ begin_same;
          begins = a.begins ∙ rw (begin_same, words_same (length xs));
          tagged = a.tagged ∙ rw (begin_same, saved_same (length ts));
        }
