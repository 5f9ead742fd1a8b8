-- What a file is judged by, as the beginning of a total and beside one.
use Rattle.std.specs.Prelude.{◌≡◌, Bool, true, false, not, Result, MatchResult, ◌||◌, List, [], ◌∷◌, ◌++◌, ℕ, ◌+◌, ◌*◌, eqb, length}
use Rattle.scheme.specs.Numbers.{pick}
use Rattle.scheme.specs.Checks.{Check, row, applies, refusal}
use Rattle.scheme.specs.Checks.{length_fails, words_fail}
use Rattle.check_order.specs.declared.refusal.Refusal.{Refusal}
use Rattle.check_order.specs.Answer.{number_of as number_of_refusal}
use Rattle.primus_reduce.specs.Ring.{size_of, number_of}
use Rattle.primus_reduce.specs.declared.modulus.Modulus.{Modulus}
use Rattle.lwe_tag.specs.declared.LweTag.{LweTag}
use Rattle.lwe_parameters.specs.Answers.{decryption_parameters_rows}
use Rattle.saved_head.specs.declared.head.Head.{Head}
use Rattle.saved_head.specs.Kind.{is_ciphertexts}
use Rattle.saved_head.specs.Head.{head_of, file_rows}
use Rattle.saved.specs.Layout.{file_words}
use Rattle.pooling_rows.specs.Rows.{places_fail, saved_fail}
use Rattle.lwe_parameters.specs.declared.parameter.LweDecryptionParameters.{LweDecryptionParameters}

-- 19: a file of another kind, or made with another q or t, is unknown to this total
abbrev pub other_fails : Head → Modulus → ℕ → Bool
other_fails h m t =
    not (is_ciphertexts h.kind)
    || (not (eqb (number_of h.modulus) (number_of m)) || not (eqb h.plaintext_modulus t))

-- a file with the head h, for a total of `width` words and `places` tags: 2 to 12
abbrev pub size_rows : LweDecryptionParameters → Head → ℕ → ℕ → List Check
size_rows p h width places =
    decryption_parameters_rows p
    ++ row (length_fails h.n p.dimension.0) 10
    ∷ row (length_fails h.words (h.count * (p.dimension.0 + 1))) 10
    ∷ row (length_fails width h.words) 10
    ∷ row (length_fails places h.count) 12
    ∷ []

-- 19: no whole file, or none of this total. The E of its head is not judged: a sum takes words and tags, and no E
abbrev pub own_rows : LweDecryptionParameters → Head → List ℕ → List Check
own_rows p h s = row (other_fails h p.modulus p.plaintext_modulus) 19 ∷ file_rows s

-- the head of a whole file of this total, or 19
abbrev pub OwnHead : LweDecryptionParameters → List ℕ → Result Head Refusal → Type 0
OwnHead p s r =
    MatchResult r
    (λ h. (h ≡ head_of s) × (applies (own_rows p (head_of s) s) 19 ≡ false))
    (λ e. (number_of_refusal e ≡ 19) × (applies (own_rows p (head_of s) s) 19 ≡ true))

-- a file s with the head h, as the beginning of a total
abbrev pub begin_rows : LweDecryptionParameters → Head → List ℕ → ℕ → ℕ → List Check
begin_rows p h s width places =
    own_rows p h s
    ++ size_rows p h width places
    ++ row (words_fail (size_of p.modulus) (file_words s h.words)) 14
    ∷ row (saved_fail places s) 17
    ∷ []

-- a file s with the head h, added to the words xs and the tags ts
abbrev pub total_rows : LweDecryptionParameters → Head → List ℕ → List ℕ → List LweTag → List Check
total_rows p h s xs ts =
    own_rows p h s
    ++ size_rows p h (length xs) (length ts)
    ++ row (words_fail (size_of p.modulus) xs) 14
    ∷ row (words_fail (size_of p.modulus) (file_words s h.words)) 14
    ∷ row (places_fail ts s) 17
    ∷ []

-- 19 comes first, since of what is no file of this total nothing can be judged; then the order
unfoldable pub file_refusal : List Check → ℕ
file_refusal rows = pick (applies rows 19) 19 (refusal rows)

abbrev pub begin_refusal : LweDecryptionParameters → List ℕ → ℕ → ℕ → ℕ
begin_refusal p s width places = file_refusal (begin_rows p (head_of s) s width places)

abbrev pub total_refusal : LweDecryptionParameters → List ℕ → List ℕ → List LweTag → ℕ
total_refusal p s xs ts = file_refusal (total_rows p (head_of s) s xs ts)
