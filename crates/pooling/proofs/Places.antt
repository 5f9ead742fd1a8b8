-- The rows of a total and of a file that is judged: each sum is accepted, and together they are the sum of the words.
--     adds_at         each place of a judged file can be added
--     filling_rest    the rows to come are as they were
--     all_rows        the sums of the rows are the sum of the words
-- Assumes nothing.
use mathlib.Core.Path.{◌≡◌, refl, sym, ap, ap₂, subst, ◌∙◌}
use mathlib.Core.Bool.{Bool, true, false, not, ◌||◌}
use mathlib.Core.List.{List, [], ◌∷◌}
use Prim.Native.Nat.{ℕ, suc, ◌+◌, ◌*◌, ◌%◌, ◌≤◌, ◌<◌}
use native.Mathlib.Omega.{arith}
use lib.Dec.{ltb}
use lib.ListN.{length, get_or, take, drop, set}
use lib.Seq.{drop_at}
use borrow.Author.Tests.{eq-eqb, lt-ltb}
use Rattle.std.proofs.lemmas.List.{get_or_default}
use Rattle.scheme.specs.Numbers.{pick, rows_of}
use Rattle.scheme.specs.Lwe.{add_words, row_of}
use Rattle.scheme.specs.Checks.{Check, applies, first_in, refusal, all_of, modulus_fails, dimension_fails, length_fails, words_fail}
use Rattle.scheme.proofs.Checks.{modulus_ok, dimension_ok, length_ok, words_ok}
use Rattle.scheme.proofs.Order.{passed, neither}
use Rattle.scheme.proofs.Lists.{length-tabulate, get_d_tabulate, tabulate_at}
use Rattle.scheme.proofs.InPlace.{Filled, filled_start, filled_at, filled_with, length_zip, zip_at}
use Rattle.scheme.proofs.Rows.{Filling, filling_start, filling_room, filling_next, filling_end, rows-length, is-rows, row_within, part_at, part_length, part_below}
use Rattle.primus_reduce.specs.Ring.{meant, size_of}
use Rattle.primus_reduce.specs.declared.modulus.Modulus.{Modulus}
use Rattle.lwe_tag.specs.declared.LweTag.{LweTag}
use Rattle.lwe_tag.specs.Answers.{tag_rows, untallied}
use Rattle.primus_lattice.specs.Answers.{add_rows}
use Rattle.saved_head.specs.Head.{head_of}
use Rattle.saved.specs.Layout.{file_word, file_words, saved_tag}
use Rattle.lwe_parameters.specs.declared.parameter.LweDecryptionParameters.{LweDecryptionParameters}
use Rattle.pooling_rows.specs.Rows.{place_tag, added_tag, place_sum, add_tags, words_from, row_at, replaced_row}
use Rattle.pooling_refusals.specs.Rows.{total_rows, total_refusal}
use Rattle.pooling_refusals.proofs.Laws.{in_order}
use Rattle.pooling.proofs.Laws.{place_ok}

-- ---- no number applies to a sum of two rows

all_true : (p : ℕ → Bool) (xs : List ℕ) → ((i : ℕ) → i < length xs → p (get_or xs i 0) ≡ true) → all_of p xs ≡ true
unfolding all_of
all_true p [] h = refl
all_true p (x ∷ xs) h = rw (h 0 (omega arith)) (all_true p xs (λ i k. h (suc i) (omega arith)))

below : (q : ℕ) (xs : List ℕ) → ((i : ℕ) → i < length xs → get_or xs i 0 < q) → words_fail q xs ≡ false
unfolding words_fail
below q xs h = ap not (all_true (λ x. ltb x q) xs (λ i k. lt-ltb (get_or xs i 0) q (h i k)))

length-same : (x y : ℕ) → x ≡ y → length_fails x y ≡ false
length-same x y e = ap not (eq-eqb x y e)

passes : (a b c d e f g : Bool) → a ≡ false → b ≡ false → c ≡ false → d ≡ false → e ≡ false → f ≡ false → g ≡ false
    → ◌≡◌ {A = ℕ} (pick a 2 (pick b 6 (pick (d || c) 10 (pick (f || e) 14 (pick g 17 0))))) 0
passes a b c d e f g ea eb ec ed ee ef eg = rw (ea, eb, ec, ed, ee, ef, eg)

add_passes : (m : Modulus) (n : ℕ) (x : List ℕ) (g : LweTag) (y : List ℕ) (h : LweTag) → modulus_fails (meant m) ≡ false → dimension_fails n ≡ false
    → length x ≡ n + 1 → length y ≡ n + 1 → words_fail (size_of m) x ≡ false → words_fail (size_of m) y ≡ false → applies (tag_rows g h) 17 ≡ false
    → refusal (add_rows m n x g y h) ≡ 0
unfolding refusal first_in
add_passes m n x g y h a b c d e f k =
    passes (modulus_fails (meant m)) (dimension_fails n) (length_fails (length x) (n + 1)) (length_fails (length y) (n + 1)) (words_fail (size_of m) x)
    (words_fail (size_of m) y) (applies (tag_rows g h) 17) a b (length-same _ _ c) (length-same _ _ d) e f k

-- ---- the rows to come

pub filling_rest : {f : ℕ → List ℕ} {w c : ℕ} {d now : List ℕ} {i : ℕ} → Filling f w c d now i → drop (i * w) now ≡ drop (i * w) d
filling_rest {f} {w} {c} {d} {now} {i} r =
    ap (drop (i * w)) r.is ∙ drop_at (rows_of i f) (drop (i * w) d) (i * w) (rows-length f w i (λ j k. r.rows j (omega (arith, r.within))))

-- ---- a file that is judged

-- the sum at place i
abbrev pub sum_at : ℕ → ℕ → List ℕ → List ℕ → ℕ → List ℕ
sum_at q w s xs i = add_words q (row_at w xs i) (words_from s (i * w) w)

module _ (p : LweDecryptionParameters) (s xs : List ℕ) (ts : List LweTag) (e : total_refusal p s xs ts ≡ 0) where
  abbrev q : ℕ
  q = size_of p.modulus

  abbrev n : ℕ
  n = p.dimension.0

  abbrev rows : List Check
  rows = total_rows p (head_of s) s xs ts

  zeroes : refusal rows ≡ 0
  zeroes = in_order rows e

  widths : (length xs ≡ (head_of s).words) × ((head_of s).words ≡ (head_of s).count * (n + 1))
  widths =
      let h = head_of s in
      let two = (neither (length_fails h.n n) (length_fails (length xs) h.words || length_fails h.words (h.count * (n + 1))) (passed rows zeroes 10 tt)).1 in
      let one = neither (length_fails h.words (h.count * (n + 1))) (length_fails (length xs) h.words) two in
      (length_ok _ _ one.1, length_ok _ _ one.0)

  pub whole : length xs ≡ length ts * (n + 1)
  whole = widths.0 ∙ widths.1 ∙ ap (λ c. c * (n + 1)) (sym (length_ok _ _ (passed rows zeroes 12 tt)))

  most : n ≤ 2048
  most = (dimension_ok n (passed rows zeroes 6 tt)).1

  pub positive : 0 < q
  positive = omega (arith, modulus_ok 32 (meant p.modulus) (omega arith) (passed rows zeroes 2 tt))

  words : (words_fail q xs ≡ false) × (words_fail q (file_words s (head_of s).words) ≡ false)
  words = neither (words_fail q xs) (words_fail q (file_words s (head_of s).words)) (passed rows zeroes 14 tt)

  within : (i k : ℕ) → i < length ts → k < n + 1 → i * (n + 1) + k < length xs
  within i k h l = omega (arith, whole, row_within (n + 1) (length ts) i h)

  file_below : (i : ℕ) → i < length ts → (k : ℕ) → k < length (words_from s (i * (n + 1)) (n + 1)) → get_or (words_from s (i * (n + 1)) (n + 1)) k 0 < q
  file_below i h k l =
      let m : k < n + 1 = omega (arith, length-tabulate (n + 1) (λ j. file_word s (i * (n + 1) + j))) in
      let o : i * (n + 1) + k < (head_of s).words = omega (arith, within i k h m, widths.0) in
      subst (λ w. w < q) (get_d_tabulate (head_of s).words (file_word s) (i * (n + 1) + k) o ∙ sym (get_d_tabulate (n + 1) (λ j. file_word s (i * (n + 1) + j)) k m))
      (words_ok q (file_words s (head_of s).words) words.1 (i * (n + 1) + k) (omega (arith, length-tabulate (head_of s).words (file_word s))))

  pub adds_at : (i : ℕ) → i < length ts
      → refusal (add_rows p.modulus n (row_of n xs i) (place_tag ts i) (words_from s (i * (n + 1)) (n + 1)) (saved_tag s i)) ≡ 0
  adds_at i h =
      add_passes p.modulus n (row_of n xs i) (place_tag ts i) (words_from s (i * (n + 1)) (n + 1)) (saved_tag s i) (passed rows zeroes 2 tt)
      (passed rows zeroes 6 tt) (part_length (n + 1) (length ts) xs i whole h) (length-tabulate (n + 1) (λ j. file_word s (i * (n + 1) + j)))
      (below q (row_of n xs i) (part_below q (n + 1) xs i (words_ok q xs words.0))) (below q (words_from s (i * (n + 1)) (n + 1)) (file_below i h))
      (place_ok ts s i (passed rows zeroes 17 tt) h)

  abbrev sums : ℕ → List ℕ
  sums = sum_at q (n + 1) s xs

  alike : (i : ℕ) → i < length ts → length (row_of n xs i) ≡ length (words_from s (i * (n + 1)) (n + 1))
  alike i h = part_length (n + 1) (length ts) xs i whole h ∙ sym (length-tabulate (n + 1) (λ j. file_word s (i * (n + 1) + j)))

  pub sums_length : (i : ℕ) → i < length ts → length (sums i) ≡ n + 1
  sums_length i h =
      length_zip (λ x y. (x + y) % q) (row_of n xs i) (words_from s (i * (n + 1)) (n + 1)) (alike i h) ∙ part_length (n + 1) (length ts) xs i whole h

  abbrev add : ℕ → ℕ → ℕ
  add x y = (x + y) % q

  abbrev ys : List ℕ
  ys = file_words s (length xs)

  same : length xs ≡ length ys
  same = sym (length-tabulate (length xs) (file_word s))

  word_at : (i k : ℕ) → i < length ts → k < n + 1 → get_or (add_words q xs ys) (i * (n + 1) + k) 0 ≡ get_or (sums i) k 0
  word_at i k h l =
      let o = within i k h l in
      zip_at add xs ys (i * (n + 1) + k) same o
      ∙ ap₂ add (sym (part_at (n + 1) xs i k l))
      (get_d_tabulate (length xs) (file_word s) (i * (n + 1) + k) o ∙ sym (get_d_tabulate (n + 1) (λ j. file_word s (i * (n + 1) + j)) k l))
      ∙ sym (zip_at add (row_of n xs i) (words_from s (i * (n + 1)) (n + 1)) k (alike i h) (omega (arith, part_length (n + 1) (length ts) xs i whole h)))

  pub all_rows : rows_of (length ts) sums ≡ add_words q xs ys
  all_rows = sym (is-rows sums (n + 1) (length ts) sums_length (add_words q xs ys) (length_zip add xs ys same ∙ whole) word_at)

  -- ---- the loop: after i turns

  abbrev Turned : List ℕ → List LweTag → ℕ → Type 0
  Turned now tags i = Filling sums (n + 1) (length ts) xs now i × Filled (add_tags ts s) ts tags i

  pub turns-start : Turned xs ts 0
  turns-start =
      (filling_start sums (n + 1) (length ts) xs whole sums_length, filled_start (add_tags ts s) ts (length-tabulate (length ts) (place_sum ts s)))

  module _ (now : List ℕ) (tags : List LweTag) (i : ℕ) (r : Turned now tags i) (h : i < length ts) where
    -- the row and the tag to come are as they were
    rest : row_at (n + 1) now i ≡ row_at (n + 1) xs i
    rest = ap (take (n + 1)) (filling_rest r.0)

    -- read with any z past the end
    kept : (z : LweTag) → get_or tags i z ≡ place_tag ts i
    kept z = filled_at (add_tags ts s) ts tags i r.1 z h ∙ get_or_default ts i z untallied h

    pub turn_ready : (z : LweTag) → (i * (n + 1) + (n + 1) ≤ length now) × (n + 1 ≤ 2049)
        × (refusal (add_rows p.modulus n (row_at (n + 1) now i) (get_or tags i z) (words_from s (i * (n + 1)) (n + 1)) (saved_tag s i)) ≡ 0)
    turn_ready z = (
      filling_room r.0 h,
      omega (arith, most),
      ap₂ (λ (row : List ℕ) (g : LweTag). refusal (add_rows p.modulus n row g (words_from s (i * (n + 1)) (n + 1)) (saved_tag s i))) rest (kept z) ∙ adds_at i h,
    )

    pub turn_next : (z : LweTag) (next : List ℕ) (g : LweTag) → next ≡ replaced_row (n + 1) now i (sum_at q (n + 1) s now i)
        → g ≡ added_tag (get_or tags i z) (saved_tag s i) → Turned next (set tags i g) (i + 1)
    turn_next z next g en eg = (
      filling_next r.0 h next (en ∙ ap (λ row. replaced_row (n + 1) now i (add_words q row (words_from s (i * (n + 1)) (n + 1)))) rest),
      filled_with (add_tags ts s) ts tags i r.1 untallied g h
          (eg ∙ ap (λ t. added_tag t (saved_tag s i)) (kept z) ∙ sym (tabulate_at untallied (length ts) (place_sum ts s) i h)),
    )

  pub turns_end : (now : List ℕ) (tags : List LweTag) (i : ℕ) → Turned now tags i → length ts ≤ i → now ≡ add_words q xs ys
  turns_end now tags i r h = filling_end r.0 h ∙ all_rows
