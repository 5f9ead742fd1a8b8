-- Scans over the places of a table, and the tags of a file.
-- Assumes nothing.
use Rattle.std.proofs.Common.{◌≡◌, refl, Bool, true, false, not, ◌&&◌, ◌||◌, List, ℕ, zero, suc, ◌+◌, ◌<◌, length, get_or, add-one}
use Rattle.std.proofs.lemmas.List.{get_or_default}
use Rattle.scheme.specs.Numbers.{tabulate}
use Rattle.scheme.specs.Checks.{all_of}
use Rattle.scheme.specs.Tally.{add_carried, carried_fails}
use Rattle.scheme.proofs.Lists.{is_table}
use Rattle.lwe_tag.specs.declared.LweTag.{LweTag}
use Rattle.lwe_tag.specs.Answers.{cap, carried_of, tag_fails, untallied}
use Rattle.saved.specs.Layout.{saved_tag}
use Rattle.pooling_rows.specs.Rows.{place_tag, somewhere, place_fails, saved_tags}

one : (a : Bool) → (a && true) ≡ a
one true = refl
one false = refl

along : (a b c d : Bool) → b ≡ (c && d) → (a && b) ≡ ((a && c) && d)
along true b c d e = e
along false b c d e = refl

-- the next term of f 0, f 1, …
pub all_next : (p : ℕ → Bool) (f : ℕ → ℕ) (n : ℕ) → all_of p (tabulate (suc n) f) ≡ (all_of p (tabulate n f) && p (f n))
unfolding all_of tabulate
all_next p f zero = one (p (f 0))
all_next p f (suc n) = along (p (f 0)) _ _ _ (all_next p (λ i. f (suc i)) n)

not_both : (a b : Bool) → not (a && not b) ≡ (not a || b)
not_both true true = refl
not_both true false = refl
not_both false b = refl

pub somewhere_next : (k : ℕ) (f : ℕ → Bool) → somewhere (k + 1) f ≡ (somewhere k f || f k)
somewhere_next k f = rw (add-one, all_next (λ i. not (f i)) (λ i. i) k) (not_both (all_of (λ i. not (f i)) (tabulate k (λ i. i))) (f k))

pub somewhere_none : (f : ℕ → Bool) → somewhere 0 f ≡ false
unfolding all_of tabulate
somewhere_none f = refl

-- one place more of a total is judged
pub place_next : (ts : List LweTag) (s : List ℕ) (i : ℕ) (z h : LweTag) (any b : Bool) → i < length ts → h ≡ saved_tag s i
    → b ≡ ((carried_fails cap (add_carried (carried_of (get_or ts i z)) (carried_of h)) || tag_fails h) || tag_fails (get_or ts i z))
    → any ≡ somewhere i (place_fails ts s) → (any || b) ≡ somewhere (i + 1) (place_fails ts s)
place_next ts s i z h any b l eh eb ea = rw (ea, eb, eh, get_or_default ts i z untallied l, somewhere_next i (place_fails ts s)) refl

pub is_saved : (n : ℕ) (s : List ℕ) (ts : List LweTag) → length ts ≡ n → ((i : ℕ) → i < n → place_tag ts i ≡ saved_tag s i) → ts ≡ saved_tags n s
is_saved n s = is_table untallied n (saved_tag s)
