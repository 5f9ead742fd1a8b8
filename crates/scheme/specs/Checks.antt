-- "Checks, in order": each condition by its number, and the first number that applies.
use Rattle.std.specs.Prelude.{◌≡◌, Bool, true, false, not, ◌||◌, ◌&&◌, List, [], ◌∷◌, ◌++◌, ℕ, ◌+◌, ◌%◌, ◌^◌, leb, ltb, eqb, ℤ, nat_abs}
use Rattle.scheme.specs.Numbers.{pick}
use Rattle.scheme.specs.Modulus.{Modulus, Native, Explicit, is_power, bits}
use Rattle.scheme.specs.Lwe.{Key, Words, Signed, Errors, ErrorWords, ErrorNumbers}
use Rattle.scheme.specs.Basis.{full_count}

-- whether a condition holds, and its number
pub record Check : Type 0 where
  pub fails : Bool
  pub number : ℕ

abbrev pub row : Bool → ℕ → Check
row b k = record { fails = b; number = k }

-- "Checks, in order": the order in which numbers are judged, stated here and nowhere else. First come numbers and lengths, judged
-- before a word of a lent buffer is read; then what is read there. 4 is retired: no check ever bears it again. 26 came later (T-13).
abbrev pub sizes : List ℕ
sizes = 1 ∷ 2 ∷ 3 ∷ 5 ∷ 26 ∷ 6 ∷ 7 ∷ 8 ∷ 9 ∷ 10 ∷ 11 ∷ 12 ∷ 13 ∷ []

abbrev pub values : List ℕ
values = 14 ∷ 15 ∷ 16 ∷ 17 ∷ []

abbrev pub order : List ℕ
order = sizes ++ values

-- a call's checks are rows in any order: number k applies where a row of that number fails
abbrev pub applies : List Check → ℕ → Bool
applies [] k = false
applies (c ∷ cs) k = pick (eqb c.number k) (applies cs k || c.fails) (applies cs k)

unfoldable pub first_in : (ℕ → Bool) → List ℕ → ℕ
first_in f [] = 0
first_in f (k ∷ ks) = pick (f k) k (first_in f ks)

-- "the first refusal number that applies, in the order", or 0
unfoldable pub refusal : List Check → ℕ
refusal rows = first_in (applies rows) order

-- p holds of each element
unfoldable pub all_of : {A : Type 0} → (A → Bool) → List A → Bool
all_of p [] = true
all_of p (x ∷ xs) = p x && all_of p xs

-- "1. Base log is below 2 or above 31", that is w or more
abbrev pub base_log_fails : ℕ → ℕ → Bool
base_log_fails w b = ltb b 2 || leb w b

-- "2. An explicit modulus is below 4."
abbrev pub modulus_fails : Modulus → Bool
modulus_fails Native = false
modulus_fails (Explicit q) = ltb q 4

-- "3. An explicit modulus is below B."
abbrev pub base_fails : ℕ → Modulus → Bool
base_fails b Native = false
base_fails b (Explicit q) = ltb q (2 ^ b)

-- "5. The level count is 0 or above the full count."
abbrev pub levels_fail : ℕ → ℕ → ℕ → Bool
levels_fail k b L = ltb L 1 || ltb (full_count k b) L

-- 1, 2, 3 and 5, for every call that takes a basis
abbrev pub basis_rows : ℕ → Modulus → ℕ → ℕ → List Check
basis_rows w m b L =
    row (base_log_fails w b) 1
    ∷ row (modulus_fails m) 2
    ∷ row (base_fails b m) 3
    ∷ row (levels_fail (bits w m) b L) 5
    ∷ []

-- "26, a modulus over 65,536 that is no power of two, checked after 5" (T-13)
abbrev pub large_fails : ℕ → Modulus → Bool
large_fails w Native = false
large_fails w (Explicit q) = ltb 65536 q && not (is_power w q)

-- "6. A dimension is 0 or above 2,048."
abbrev pub dimension_fails : ℕ → Bool
dimension_fails n = ltb n 1 || ltb 2048 n

-- "7. The plaintext modulus t is below 2 …": "Refusal 7 then covers only t below 2, and 8 the rest" (T-10)
abbrev pub plaintext_fails : ℕ → Bool
plaintext_fails t = ltb t 2

-- "8. An explicit modulus is at most t."
abbrev pub small_fails : ℕ → Modulus → Bool
small_fails t Native = false
small_fails t (Explicit q) = leb q t

-- 2, 7 and 8, for every call that takes t
abbrev pub codec_rows : ℕ → Modulus → List Check
codec_rows t m = row (modulus_fails m) 2 ∷ row (plaintext_fails t) 7 ∷ row (small_fails t m) 8 ∷ []

-- "9. A key has another length …", "10. A single ciphertext is not n + 1 words", "11. An output has the wrong length.",
-- "12. Lent masks, errors or coefficients have the wrong length."
abbrev pub length_fails : ℕ → ℕ → Bool
length_fails x y = not (eqb x y)

-- "10. … packed messages or bodies number more than n", c of them
abbrev pub count_fails : ℕ → ℕ → Bool
count_fails c n = ltb n c

-- "(fewer than n words in a packed input count here)", of a packed input of `len` words
abbrev pub packed_fails : ℕ → ℕ → Bool
packed_fails len n = ltb len n || ltb (n + n) len

-- "10. … a batch is not a multiple of it", of `len` words
abbrev pub batch_fails : ℕ → ℕ → Bool
batch_fails len n = not (eqb (len % (n + 1)) 0)

-- "13. E is above 1,048,576, or not below q."
abbrev pub error_limit_fails : ℕ → ℕ → Bool
error_limit_fails q E = ltb 1048576 E || leb q E

-- "14. A word is not below q …"
abbrev pub word_fails : ℕ → ℕ → Bool
word_fails q x = leb q x

unfoldable pub words_fail : ℕ → List ℕ → Bool
words_fail q xs = not (all_of (λ x. ltb x q) xs)

-- some magnitude is not below the limit
unfoldable pub magnitudes_fail : ℕ → List ℤ → Bool
magnitudes_fail limit xs = not (all_of (λ c. ltb (nat_abs c) limit) xs)

-- "14. … or a signed key number has |c| ≥ q."
abbrev pub signed_fail : ℕ → List ℤ → Bool
signed_fail q xs = magnitudes_fail q xs

abbrev pub key_fails : ℕ → Key → Bool
key_fails q (Words s) = words_fail q s
key_fails q (Signed s) = signed_fail q s

-- "A word not below q gets 14" (T-01): errors that are words; a signed one never does
abbrev pub error_words_fail : ℕ → Errors → Bool
error_words_fail q (ErrorWords ws) = words_fail q ws
error_words_fail q (ErrorNumbers es) = false

-- "15. An error is outside ±E, or a coefficient is none of −1, 0, 1."
abbrev pub errors_fail : ℕ → List ℤ → Bool
errors_fail E xs = magnitudes_fail (E + 1) xs

abbrev pub coefficients_fail : List ℤ → Bool
coefficients_fail xs = magnitudes_fail 2 xs

-- "16. A message is not below t."
abbrev pub message_fails : ℕ → ℕ → Bool
message_fails t m = leb t m

abbrev pub messages_fail : ℕ → List ℕ → Bool
messages_fail t xs = words_fail t xs

-- A call with these rows answers r, and a lent buffer that held `before` holds `after`: where no number applies r is 0 and the buffer
-- holds the result; else r is the first number, and the buffer holds what it held.
pub record Writes {A : Type 0} (rows : List Check) (result before : List A) (r : ℕ) (after : List A) : Type 0 where
  pub answered : r ≡ refusal rows
  pub holds : after ≡ pick (eqb (refusal rows) 0) result before
