-- T-02: a total's mark counts its roundings, and a ciphertext carries c.
--     mark_was          with c 1 the mark is document 01's
--     mark_only_lost    with a c of 1 or more, what is marked good now was marked good before
--     uncounted_mark    what was saved without c is never marked good, whatever tally was saved
--     saved_again       a tag that is saved with its tally and c is read back as it was
--     sum_was           where no c is above 65,536, given or summed, the tallies alone say whether 17 refuses a sum
--     place_begun       a place of a total that begins with a file is formed as the file's is
--     place_added       and where a formed place meets a formed ciphertext of a file, their sum is formed: so if it is marked good it opens to the
--                       sum of the messages (total_opens of theorems)
-- Assumes nothing.
use mathlib.Core.Path.{◌≡◌, refl, sym, ap}
use mathlib.Core.Bool.{Bool, true, false, ◌||◌}
use mathlib.Core.List.{List, [], ◌∷◌}
use Prim.Native.Nat.{ℕ, ◌+◌, ◌*◌, ◌<◌, ◌≤◌}
use native.Mathlib.Nat.{mul-le-mul_right}
use native.Mathlib.Omega.{arith}
use lib.Dec.{eqb, ltb}
use lib.IntN.{ℤ}
use lib.ListN.{length}
use borrow.Author.Tests.{eqb-true, ltb-true, lt-ltb, le-ltb}
use Rattle.std.proofs.Common.{Some, None}
use Rattle.scheme.specs.Numbers.{pick}
use Rattle.scheme.specs.Lwe.{row_of}
use Rattle.scheme.specs.Tally.{Tally, Absent, Present, carried_saved, add_tally, good, tally_fails, count_fails}
use Rattle.scheme.specs.Checks.{row, refusal, modulus_fails, dimension_fails, length_fails, words_fail}
use Rattle.primus_reduce.specs.Ring.{meant, size_of}
use Rattle.primus_reduce.specs.declared.modulus.Modulus.{Modulus}
use Rattle.lwe_tag.specs.declared.LweTag.{LweTag}
use Rattle.lwe_tag.specs.Answers.{cap, no_tally, meant_tally, held_tally, tally_for, number_of_tally, carried_of, tag_saved}
use Rattle.primus_lattice.specs.Answers.{add_rows}
use Rattle.saved.specs.Layout.{file_words, saved_tag}
use Rattle.lwe_parameters.specs.declared.parameter.LweDecryptionParameters.{LweDecryptionParameters}
use Rattle.pooling_rows.specs.Rows.{place_tag}
use Rattle.pooling.specs.Total.{BeginsSaved, AddsSaved}
use Rattle.pooling.proofs.Placed.{begun_place, added_place}
use Rattle.theorems.specs.Formed.{Formed, Sum}

-- ---- the mark

-- "A ciphertext is marked good when 2t × tally + t < q", as document 01 has it
abbrev pub good_before : ℕ → ℕ → Tally → Bool
good_before q t Absent = false
good_before q t (Present a) = ltb (2 * t * a + t) q

pub mark_was : (q t : ℕ) (u : Tally) → good q t (record { tally = u; count = 1 }) ≡ good_before q t u
mark_was q t Absent = refl
mark_was q t (Present a) = ap (λ n. ltb n q) (omega arith)

pub mark_only_lost : (q t c : ℕ) (u : Tally) → 1 ≤ c → good q t (record { tally = u; count = c }) ≡ true → good_before q t u ≡ true
mark_only_lost q t c Absent h e = e
mark_only_lost q t c (Present a) h e =
    lt-ltb (2 * t * a + t) q (omega (arith, ltb-true (2 * t * a + c * t) q e, mul-le-mul_right {m = 1} {n = c} t h))

pub uncounted_mark : (q t : ℕ) (u : Tally) → good q t (carried_saved u None) ≡ false
uncounted_mark q t u = refl

-- a tally is saved as its number, 2^64 − 1 where there is none
pub saved_again : (g : LweTag) → tag_saved (meant_tally (tally_for g.tally)) (Some g.count) ≡ g
saved_again g = ap (λ (a : ℕ). let k : LweTag = record { tally = a; count = g.count } in k) (go (eqb g.tally no_tally) refl)
  where
    go : (b : Bool) → eqb g.tally no_tally ≡ b → number_of_tally (held_tally (meant_tally (pick b None (Some g.tally)))) ≡ g.tally
    go true e = sym (eqb-true g.tally no_tally e)
    go false e = refl

-- ---- sums

-- a sum judged by 17 of the tallies alone
abbrev pub sum_before : Modulus → ℕ → List ℕ → LweTag → List ℕ → LweTag → ℕ
sum_before m n x g y h =
    refusal
    (row (modulus_fails (meant m)) 2
    ∷ row (dimension_fails n) 6
    ∷ row (length_fails (length x) (n + 1)) 10
    ∷ row (length_fails (length y) (n + 1)) 10
    ∷ row (words_fail (size_of m) x) 14
    ∷ row (words_fail (size_of m) y) 14
    ∷ row (tally_fails cap (carried_of g).tally) 17
    ∷ row (tally_fails cap (carried_of h).tally) 17
    ∷ row (tally_fails cap (add_tally (carried_of g).tally (carried_of h).tally)) 17
    ∷ [])

-- a c of at most 65,536 adds nothing
idle : (b : Bool) (c : ℕ) → c ≤ 65536 → (b || count_fails c) ≡ b
idle true c h = refl
idle false c h = le-ltb 65536 c h

pub sum_was : (m : Modulus) (n : ℕ) (x : List ℕ) (g : LweTag) (y : List ℕ) (h : LweTag) → g.count + h.count ≤ 65536
    → refusal (add_rows m n x g y h) ≡ sum_before m n x g y h
sum_was m n x g y h l =
    rw (
      idle (tally_fails cap (carried_of g).tally) g.count (omega arith),
      idle (tally_fails cap (carried_of h).tally) h.count (omega arith),
      idle (tally_fails cap (add_tally (carried_of g).tally (carried_of h).tally)) (g.count + h.count) l,
    ) refl

-- ---- the box

-- ciphertext i of rows of words, with its tag, is formed under the secret s
abbrev FormedAt : LweDecryptionParameters → (ℕ → ℤ) → List ℕ → ℕ → LweTag → ℕ → Type 0
FormedAt p s words i tag M = Formed p.dimension p.modulus p.plaintext_modulus s (row_of p.dimension.0 words i) tag M

module _ {p : LweDecryptionParameters} {s : ℕ → ℤ} {file xs words : List ℕ} {ts tags : List LweTag} (i : ℕ) (h : i < length ts) where
  pub place_begun : {N : ℕ} → BeginsSaved p file xs ts 0 words tags → FormedAt p s (file_words file (length xs)) i (saved_tag file i) N
      → FormedAt p s words i (place_tag tags i) N
  place_begun b f = let at = begun_place b i h in rw (at.0, at.1) f

  pub place_added : {M N : ℕ} → AddsSaved p file xs ts 0 words tags → FormedAt p s xs i (place_tag ts i) M
      → FormedAt p s (file_words file (length xs)) i (saved_tag file i) N → FormedAt p s words i (place_tag tags i) (M + N)
  place_added {M} {N} a u f = Sum _ _ _ _ M N _ _ u f (added_place a i h)
