-- The layout of a saved file (docs/FILES.md), after its head: the words, and what is saved beside them. All numbers are
-- little-endian.
use Rattle.std.specs.Prelude.{List, ℕ, ◌+◌, ◌*◌, ◌-◌, ◌^◌, eqb, ltb, ℤ, pos, ◌-ℤ◌, Option, Some, None}
use Rattle.scheme.specs.Numbers.{pick, tabulate}
use Rattle.scheme.specs.Tally.{Tally, Absent, Present, Carried, carried_saved}
use Rattle.little_endian.specs.Bytes.{word32, word64}
use Rattle.lwe_tag.specs.declared.LweTag.{LweTag}
use Rattle.lwe_tag.specs.Answers.{no_tally, meant_tally, tally_for, tag_saved}
use Rattle.saved_head.specs.Head.{count_of, words_of, beside_of, has_tallies, has_counts, tallies_size}

-- word i after the head
abbrev pub file_word : List ℕ → ℕ → ℕ
file_word s i = word32 s (64 + 4 * i)

-- the first k words
abbrev pub file_words : List ℕ → ℕ → List ℕ
file_words s k = tabulate k (file_word s)

-- a signed number is saved as its word modulo 2^32
abbrev pub signed_word : ℕ → ℤ
signed_word w = pick (ltb w (2 ^ 31)) (pos w) (pos w -ℤ pos (2 ^ 32))

-- where the tallies begin, after the words, and where the numbers c do, after the tallies
abbrev pub tallies_start : List ℕ → ℕ
tallies_start s = 64 + 4 * words_of s

abbrev pub counts_start : List ℕ → ℕ
counts_start s = tallies_start s + tallies_size (count_of s) (beside_of s)

-- bit 1: a tally for each ciphertext, eight bytes; where it is 0, no tally
abbrev pub saved_tally : List ℕ → ℕ → Tally
saved_tally s i = pick (has_tallies (beside_of s)) (Present (word64 s (tallies_start s + 8 * i))) Absent

-- bit 2: the number c of encryptions summed in each ciphertext, four bytes; where it is 0, none was saved
abbrev pub saved_count : List ℕ → ℕ → Option ℕ
saved_count s i = pick (has_counts (beside_of s)) (Some (word32 s (counts_start s + 4 * i))) None

-- what ciphertext i carries: "one saved without c is read as c 1 with no tally" (T-02)
abbrev pub saved_carried : List ℕ → ℕ → Carried
saved_carried s i = carried_saved (saved_tally s i) (saved_count s i)

-- a saved tally as a tag holds it. A tag keeps 2^64 − 1 for none, but a saved tally of that number is one: it is held as the
-- number before it, which 17 refuses too
abbrev pub held_number : ℕ → ℕ
held_number a = pick (eqb a no_tally) (no_tally - 1) a

abbrev pub saved_number : List ℕ → ℕ → ℕ
saved_number s i = pick (has_tallies (beside_of s)) (held_number (word64 s (tallies_start s + 8 * i))) no_tally

abbrev pub saved_tag : List ℕ → ℕ → LweTag
saved_tag s i = tag_saved (meant_tally (tally_for (saved_number s i))) (saved_count s i)
