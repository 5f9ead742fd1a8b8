-- The places of a total: a tag for each, and a row of words, beside those of a file.
use Rattle.std.specs.Prelude.{Bool, not, List, ◌++◌, ℕ, ◌+◌, ◌*◌, length, get_or, take, drop}
use Rattle.scheme.specs.Numbers.{tabulate}
use Rattle.scheme.specs.Tally.{add_carried}
use Rattle.scheme.specs.Checks.{applies, all_of}
use Rattle.lwe_tag.specs.declared.LweTag.{LweTag}
use Rattle.lwe_tag.specs.Answers.{carried_of, tag_of, tag_fails, tag_rows, untallied}
use Rattle.saved.specs.Layout.{file_word, saved_tag}

-- the tag at place i of a total
abbrev pub place_tag : List LweTag → ℕ → LweTag
place_tag ts i = get_or ts i untallied

-- f holds at some of k places
abbrev pub somewhere : ℕ → (ℕ → Bool) → Bool
somewhere k f = not (all_of (λ i. not (f i)) (tabulate k (λ i. i)))

-- 17, at place i: the tally or c of the total, that of the file s, or their sum
abbrev pub place_fails : List LweTag → List ℕ → ℕ → Bool
place_fails ts s i = applies (tag_rows (place_tag ts i) (saved_tag s i)) 17

unfoldable pub places_fail : List LweTag → List ℕ → Bool
places_fail ts s = somewhere (length ts) (place_fails ts s)

-- 17, where the file s is the first of k places
unfoldable pub saved_fail : ℕ → List ℕ → Bool
saved_fail k s = somewhere k (λ i. tag_fails (saved_tag s i))

-- "adds … their tallies", and "adding two adds these numbers", c (T-02)
abbrev pub added_tag : LweTag → LweTag → LweTag
added_tag g h = tag_of (add_carried (carried_of g) (carried_of h))

abbrev pub place_sum : List LweTag → List ℕ → ℕ → LweTag
place_sum ts s i = added_tag (place_tag ts i) (saved_tag s i)

abbrev pub add_tags : List LweTag → List ℕ → List LweTag
add_tags ts s = tabulate (length ts) (place_sum ts s)

-- the tags of the first k ciphertexts of a file
abbrev pub saved_tags : ℕ → List ℕ → List LweTag
saved_tags k s = tabulate k (saved_tag s)

-- k words of a file, from word `at` on
abbrev pub words_from : List ℕ → ℕ → ℕ → List ℕ
words_from s at k = tabulate k (λ j. file_word s (at + j))

-- row i of rows of w words, and a list with that row replaced
abbrev pub row_at : ℕ → List ℕ → ℕ → List ℕ
row_at w xs i = take w (drop (i * w) xs)

abbrev pub replaced_row : ℕ → List ℕ → ℕ → List ℕ → List ℕ
replaced_row w xs i ys = take (i * w) xs ++ (ys ++ drop w (drop (i * w) xs))
