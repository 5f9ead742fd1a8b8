-- How refusals make answers.
--     for_number       a number that has a refusal has one
--     code_is          an answer's number is that of the first refusal, or 0
--     first_size, first_value, only_size sizes are judged before values
--     refused, served  a call whose answer is its own; accepted, answered_ok: back from such an answer
--     unwritten        a refused call leaves a lent buffer as it was
--     handed_on        where a `?` ends a call, it answers that refusal
-- Assumes nothing.
use Rattle.std.proofs.Common.{◌≡◌, refl, sym, ap, ◌∙◌, Bool, true, false, ◌&&◌, [], ◌∷◌, ℕ, List, Result, Ok, Err, arith}
use lib.Dec.{T, eqb}
use mir.Facts.{and_yes, eqb_yes}
use borrow.Author.Tests.{eqb-true, eqb-false}
use Rattle.std.specs.Prelude.{IsErrAnd}
use Rattle.std.proofs.lemmas.Result.{err_from_is_err_and}
use Rattle.scheme.specs.Numbers.{pick}
use Rattle.scheme.specs.Checks.{Check, values, order, applies, first_in, refusal, Writes}
use Rattle.scheme.proofs.Order.{early, late, only, refused as refused_buffer, told, given}
use Rattle.check_order.specs.declared.refusal.Refusal.{Refusal}
use Rattle.check_order.specs.declared.refusal.Refusal.TheVariants as R
use Rattle.check_order.specs.declared.Sizes.{Sizes}
use Rattle.check_order.specs.declared.Values.{Values}
use Rattle.check_order.specs.Answer.{number_of, refusal_for, code_of, answer}
use Rattle.check_order.specs.Judged.{JudgesSizes, JudgesValues, FirstSize, FirstValue}

pub for_number : (e : Refusal) → refusal_for (number_of e) ≡ e
unfolding number_of refusal_for
for_number R.BaseLog = refl
for_number R.Modulus = refl
for_number R.Base = refl
for_number R.Levels = refl
for_number R.LargeModulus = refl
for_number R.Dimension = refl
for_number R.PlaintextModulus = refl
for_number R.SmallModulus = refl
for_number R.KeyLength = refl
for_number R.InputLength = refl
for_number R.OutputLength = refl
for_number R.LentLength = refl
for_number R.ErrorLimit = refl
for_number R.Word = refl
for_number R.Error = refl
for_number R.Message = refl
for_number R.Tally = refl
for_number R.NoBasis = refl
for_number R.Unreadable = refl

pub some_number : (e : Refusal) → number_of e ≡ 0 → ⊥
unfolding number_of
some_number R.BaseLog z = omega arith
some_number R.Modulus z = omega arith
some_number R.Base z = omega arith
some_number R.Levels z = omega arith
some_number R.LargeModulus z = omega arith
some_number R.Dimension z = omega arith
some_number R.PlaintextModulus z = omega arith
some_number R.SmallModulus z = omega arith
some_number R.KeyLength z = omega arith
some_number R.InputLength z = omega arith
some_number R.OutputLength z = omega arith
some_number R.LentLength z = omega arith
some_number R.ErrorLimit z = omega arith
some_number R.Word z = omega arith
some_number R.Error z = omega arith
some_number R.Message z = omega arith
some_number R.Tally z = omega arith
some_number R.NoBasis z = omega arith
some_number R.Unreadable z = omega arith

-- each number of a list is that of a refusal
abbrev known : List ℕ → Bool
known [] = true
known (k ∷ ks) = eqb (number_of (refusal_for k)) k && known ks

back : (f : ℕ → Bool) (ks : List ℕ) → T (known ks) → (first_in f ks ≡ 0 → ⊥) → number_of (refusal_for (first_in f ks)) ≡ first_in f ks
unfolding first_in
back f [] t h = absurd (h refl)
back f (k ∷ ks) t h = go (f k) h (back f ks (and_yes (eqb (number_of (refusal_for k)) k) (known ks) t).1)
  where
    go : (b : Bool) → (pick b k (first_in f ks) ≡ 0 → ⊥) → ((first_in f ks ≡ 0 → ⊥) → number_of (refusal_for (first_in f ks)) ≡ first_in f ks)
        → number_of (refusal_for (pick b k (first_in f ks))) ≡ pick b k (first_in f ks)
    go true h rest = eqb_yes (and_yes (eqb (number_of (refusal_for k)) k) (known ks) t).0
    go false h rest = rest h

-- the number of a call's answer is that of the first refusal, or 0
pub code_is : {A : Type 0} (rows : List Check) (x : A) → code_of (answer rows x) ≡ refusal rows
unfolding answer refusal number_of refusal_for
code_is rows x = go (eqb (refusal rows) 0) refl
  where
    go : (b : Bool) → eqb (refusal rows) 0 ≡ b → code_of (pick b (Ok x) (Err (refusal_for (refusal rows)))) ≡ refusal rows
    go true e = sym (eqb-true (refusal rows) 0 e)
    go false e = back (applies rows) order tt (eqb-false (refusal rows) 0 e)

-- ---- sizes before values

-- the first of the sizes is the first of all
pub first_size : (rows : List Check) (j : Sizes) (e : Refusal) → FirstSize j (number_of e) → JudgesSizes rows j → number_of e ≡ refusal rows
first_size rows j e f h = early rows (f rows h) (some_number e)

-- none of the sizes, so the first of the values
pub first_value : (rows : List Check) (j : Sizes) (v : Values) (r : ℕ) → FirstSize j 0 → JudgesSizes rows j → FirstValue v r → JudgesValues rows v
    → r ≡ refusal rows
first_value rows j v r f h g k = late rows (f rows h) refl (g rows k)

-- where a call judges no values
pub only_size : (rows : List Check) (j : Sizes) (r : ℕ) → FirstSize j r → JudgesSizes rows j → first_in (applies rows) values ≡ 0 → r ≡ refusal rows
only_size rows j r f h n = only rows (f rows h) n

-- ---- a call with an answer of its own

pub refused : {A : Type 0} (rows : List Check) (x : A) (e : Refusal) → number_of e ≡ refusal rows → ◌≡◌ {A = Result A Refusal} (Err e) (answer rows x)
unfolding answer
refused rows x e h =
    ap Err (sym (for_number e) ∙ ap refusal_for h) ∙ told (λ r. Err (refusal_for r)) (refusal rows) (refusal rows) (Ok x) refl (λ z. some_number e (h ∙ z))

pub served : {A : Type 0} (rows : List Check) (v x : A) → 0 ≡ refusal rows → v ≡ x → ◌≡◌ {A = Result A Refusal} (Ok v) (answer rows x)
unfolding answer
served rows v x h e = given (refusal rows) (Ok v) (Ok x) (Err (refusal_for (refusal rows))) (sym h) (ap Ok e)

pub accepted : {A : Type 0} (rows : List Check) (x : A) → refusal rows ≡ 0 → ◌≡◌ {A = Result A Refusal} (answer rows x) (Ok x)
accepted rows x e = sym (served rows x x (sym e) refl)

-- a call that answers a value was not refused, and the value is its own
pub answered_ok : {A : Type 0} (rows : List Check) (x v : A) → ◌≡◌ {A = Result A Refusal} (Ok v) (answer rows x) → (refusal rows ≡ 0) × (v ≡ x)
answered_ok {A} rows x v h = let z : refusal rows ≡ 0 = sym (code_is rows x) ∙ sym (ap code_of h) in (z, same (h ∙ accepted rows x z))
  where
    same : ◌≡◌ {A = Result A Refusal} (Ok v) (Ok x) → v ≡ x
    same e = cc

-- ---- a call with a lent buffer

pub unwritten : {A : Type 0} {rows : List Check} {result before : List A} (e : Refusal) → number_of e ≡ refusal rows
    → Writes rows result before (number_of e) before
unwritten e h = refused_buffer h (some_number e)

-- ---- a call that ends at a `?`

pub handed_on : {A : Type 0} (r : Result A Refusal) {e : Refusal} → IsErrAnd r (λ y. y ≡ e) → r ≡ Err e
handed_on r h = let p = err_from_is_err_and r h in p.1 ∙ ap Err p.2
