-- What a call that gave no refusal leaves, and when a call gives none.
--     wrote       a call that answered 0 has no refusal, and its buffer holds its result
--     settled     a call that has no refusal answers 0, and its buffer holds its result
--     written     a call that wrote ciphertexts has no refusal, its buffer holds its result, and its tag is the promised one
--     settled_tag a call on ciphertexts that has no refusal answers its tag, and its buffer holds its result
--     told        a call without a refusal answers its word
--     words_fit   words below q are not refused by 14; length_fit: nor an equal length by 9 to 12
-- Assumes nothing.
use mathlib.Core.Path.{◌≡◌, refl, sym, ap, ap₂, ◌∙◌}
use mathlib.Core.Bool.{true, false, not, ◌&&◌}
use mathlib.Core.List.{List, [], ◌∷◌}
use Prim.Native.Nat.{ℕ, suc}
use native.Mathlib.Omega.{arith}
use lib.Dec.{ltb}
use borrow.Author.Tests.{eq-eqb, lt-ltb}
use Rattle.std.proofs.Common.{Result, Ok}
use Rattle.check_order.specs.declared.refusal.Refusal.{Refusal}
use Rattle.scheme.specs.Switch.{Below}
use Rattle.scheme.specs.Checks.{Check, refusal, all_of, words_fail, length_fails, Writes}
use Rattle.lwe_tag.specs.declared.LweTag.{LweTag}
use Rattle.check_order.specs.Answer.{answer}
use Rattle.check_order.proofs.Answers.{accepted, answered_ok}
use Rattle.lwe_tag.specs.Answers.{WritesTagged}

pub settled : {A : Type 0} {rows : List Check} {result before after : List A} {r : ℕ} → Writes rows result before r after → refusal rows ≡ 0
    → (r ≡ 0) × (after ≡ result)
settled {rows = rows} w e = (w.answered ∙ e, w.holds ∙ rw (eq-eqb (refusal rows) 0 e))

pub wrote : {A : Type 0} {rows : List Check} {result before after : List A} → Writes rows result before 0 after → (refusal rows ≡ 0) × (after ≡ result)
wrote w = (sym w.answered, (settled w (sym w.answered)).1)

pub settled_tag : {rows : List Check} {tag : LweTag} {result before after : List ℕ} {given : Result LweTag Refusal} → WritesTagged rows tag result before given after
    → refusal rows ≡ 0 → (given ≡ Ok tag) × (after ≡ result)
settled_tag {rows = rows} {tag = tag} w e = (w.answered ∙ accepted rows tag e, w.holds ∙ rw (eq-eqb (refusal rows) 0 e))

pub written : {rows : List Check} {tag g : LweTag} {result before after : List ℕ} → WritesTagged rows tag result before (Ok g) after
    → (refusal rows ≡ 0) × (after ≡ result) × (g ≡ tag)
written {rows} {tag} {g} w =
    let a = answered_ok rows tag g w.answered in (a.0, w.holds ∙ rw (eq-eqb (refusal rows) 0 a.0), a.1)

pub told : (rows : List Check) (x : ℕ) → refusal rows ≡ 0 → answer rows x ≡ Ok x
told rows x e = accepted rows x e

-- ---- conditions that do not hold

all_below : (q : ℕ) (xs : List ℕ) → Below q xs → all_of (λ x. ltb x q) xs ≡ true
unfolding all_of
all_below q [] h = refl
all_below q (x ∷ xs) h = ap₂ ◌&&◌ (lt-ltb x q (h 0 (omega arith))) (all_below q xs (λ i k. h (suc i) (omega arith)))

pub words_fit : (q : ℕ) (xs : List ℕ) → Below q xs → words_fail q xs ≡ false
unfolding words_fail
words_fit q xs h = ap not (all_below q xs h)

pub length_fit : (x y : ℕ) → x ≡ y → length_fails x y ≡ false
length_fit x y e = ap not (eq-eqb x y e)
