-- The layout of a saved file (docs/FILES.md): a head of 64 bytes, and what makes a whole file. All numbers are
-- little-endian.
use Rattle.std.specs.Prelude.{Bool, not, ◌||◌, ◌&&◌, List, [], ◌∷◌, ℕ, ◌+◌, ◌*◌, ◌/◌, ◌%◌, ◌^◌, eqb, ltb, length}
use Rattle.scheme.specs.Numbers.{pick}
use Rattle.scheme.specs.Checks.{Check, row, applies}
use Rattle.little_endian.specs.Bytes.{word32, word64}
use Rattle.primus_reduce.specs.Ring.{modulus_for}
use Rattle.saved_head.specs.Kind.{kind_for}
use Rattle.saved_head.specs.declared.head.Head.{Head}

-- the numbers of the head, each four bytes at its place
abbrev pub kind_of : List ℕ → ℕ
kind_of s = word32 s 8

abbrev pub count_of : List ℕ → ℕ
count_of s = word32 s 40

abbrev pub words_of : List ℕ → ℕ
words_of s = word32 s 44

abbrev pub beside_of : List ℕ → ℕ
beside_of s = word32 s 48

-- the head, of any bytes
unfoldable pub head_of : List ℕ → Head
head_of s =
    record {
      kind = kind_for (kind_of s);
      modulus = modulus_for (word32 s 12);
      n = word32 s 16;
      m = word32 s 20;
      base_log = word32 s 24;
      levels = word32 s 28;
      plaintext_modulus = word32 s 32;
      error_limit = word32 s 36;
      count = count_of s;
      words = words_of s;
      beside = beside_of s;
    }

-- "SGLN", then version 1: as one number of eight bytes
abbrev pub signature_fails : List ℕ → Bool
signature_fails s = not (eqb (word64 s 0) (1313621843 + 2 ^ 32))

-- kinds 1 to 7
abbrev pub kind_fails : ℕ → Bool
kind_fails k = ltb k 1 || ltb 7 k

-- bit 1 of what is saved beside the words: a tally for each ciphertext; and bit 2: the number c of encryptions summed in it
abbrev pub has_tallies : ℕ → Bool
has_tallies b = eqb (b % 2) 1

abbrev pub has_counts : ℕ → Bool
has_counts b = eqb (b / 2 % 2) 1

-- beside the words of kind 5 there may be either or both, beside those of kind 6 a c, and beside the others nothing
abbrev pub beside_fails : ℕ → ℕ → Bool
beside_fails k b = pick (eqb k 5) (ltb 3 b) (pick (eqb k 6) (not (eqb b 0) && not (eqb b 2)) (not (eqb b 0)))

-- bytes 52 to 63: zero, kept for later releases
abbrev pub kept_fails : List ℕ → Bool
kept_fails s = not (eqb (word64 s 52) 0) || not (eqb (word32 s 60) 0)

-- the bytes of the tallies of k ciphertexts, eight each
abbrev pub tallies_size : ℕ → ℕ → ℕ
tallies_size k b = pick (has_tallies b) (8 * k) 0

-- and those of their numbers c, four each; a packed ciphertext, of kind 6, has k bodies and one c
abbrev pub counts_size : ℕ → ℕ → ℕ → ℕ
counts_size kind k b = pick (has_counts b) (pick (eqb kind 6) 4 (4 * k)) 0

-- the length of a file: the head, w words, the tallies, the numbers c
abbrev pub size_for : ℕ → ℕ → ℕ → ℕ → ℕ
size_for kind w k b = 64 + 4 * w + tallies_size k b + counts_size kind k b

abbrev pub size_fails : ℕ → ℕ → ℕ → ℕ → ℕ → Bool
size_fails len kind w k b = not (eqb len (size_for kind w k b))

-- 19: bytes that are no whole file of this layout. It is not in the order: where it applies there is nothing to judge.
abbrev pub file_rows : List ℕ → List Check
file_rows s =
    row (ltb (length s) 64) 19
    ∷ row (signature_fails s) 19
    ∷ row (kind_fails (kind_of s)) 19
    ∷ row (beside_fails (kind_of s) (beside_of s)) 19
    ∷ row (kept_fails s) 19
    ∷ row (size_fails (length s) (kind_of s) (words_of s) (count_of s) (beside_of s)) 19
    ∷ []

abbrev pub file_fails : List ℕ → Bool
file_fails s = applies (file_rows s) 19
