-- What a refusal by the order says.
--     in_order      a refusal applies, and no number before it in the order does
--     passed        without a refusal no number applies; none_holds: none of the conditions holds
--     one_more_lem      one more condition changes a refusal to its own number or not at all; again: not where its number applies already
--     early, late   sizes are judged before values: the first number of the sizes, or where there is none that of the values
--     refused, done the two ways through a call with a lent buffer
-- Assumes nothing.
use mathlib.Core.Path.{◌≡◌, refl, sym, ap, ◌∙◌}
use mathlib.Core.Bool.{Bool, true, false, not, ◌||◌, ◌&&◌}
use mathlib.Core.List.{List, [], ◌∷◌, ◌++◌}
use Prim.Native.Nat.{ℕ}
use native.Mathlib.Omega.{arith}
use lib.Dec.{T, eqb}
use mir.Facts.{and_yes, eqb_no}
use borrow.Author.Tests.{eqb-true, eq-eqb, ne_eqb}
use Rattle.scheme.specs.Numbers.{pick}
use Rattle.scheme.specs.Checks.{Check, sizes, values, order, applies, first_in, refusal, Writes}

-- no number of a list is 0
abbrev pub positive : List ℕ → Bool
positive [] = true
positive (k ∷ ks) = not (eqb k 0) && positive ks

-- f holds of none of the numbers
abbrev pub None : (ℕ → Bool) → List ℕ → Type 0
None f [] = Unit {0}
None f (k ∷ ks) = (f k ≡ false) × None f ks

abbrev pub has : ℕ → List ℕ → Bool
has k [] = false
has k (x ∷ xs) = pick (eqb x k) true (has k xs)

pub none : (f : ℕ → Bool) (ks : List ℕ) → T (positive ks) → first_in f ks ≡ 0 → None f ks
unfolding first_in
none f [] t e = tt
none f (k ∷ ks) t e = go (f k) refl (λ z. none f ks (and_yes (not (eqb k 0)) (positive ks) t).1 z)
  where
    go : (b : Bool) → f k ≡ b → (first_in f ks ≡ 0 → None f ks) → (f k ≡ false) × None f ks
    go true h rest = absurd (eqb_no (and_yes (not (eqb k 0)) (positive ks) t).0 (sym (ap (λ x. pick x k (first_in f ks)) h) ∙ e))
    go false h rest = (h, rest (sym (ap (λ x. pick x k (first_in f ks)) h) ∙ e))

at : (f : ℕ → Bool) (ks : List ℕ) → None f ks → (k : ℕ) → T (has k ks) → f k ≡ false
at f [] p k t = absurd t
at f (x ∷ xs) p k t = go (eqb x k) refl t (at f xs p.1 k)
  where
    go : (b : Bool) → eqb x k ≡ b → T (pick b true (has k xs)) → (T (has k xs) → f k ≡ false) → f k ≡ false
    go true h t rest = ap f (sym (eqb-true x k h)) ∙ p.0
    go false h t rest = rest t

-- without a refusal no number applies: `passed rows e 12 tt` says it of 12
pub passed : (rows : List Check) → refusal rows ≡ 0 → (k : ℕ) → T (has k order) → applies rows k ≡ false
unfolding refusal
passed rows e k t = at (applies rows) order (none (applies rows) order tt e) k t

-- of two rows of one number
pub neither : (a b : Bool) → (b || a) ≡ false → (a ≡ false) × (b ≡ false)
neither a true e = let z : true ≡ false = e in absurd (let y : ◌≡◌ {A = ℕ} 0 1 = cc in omega arith)
neither a false e = (e, refl)

-- more numbers do not change one that applies
pub kept : (f : ℕ → Bool) (ks ls : List ℕ) → (first_in f ks ≡ 0 → ⊥) → first_in f (ks ++ ls) ≡ first_in f ks
unfolding first_in
kept f [] ls h = absurd (h refl)
kept f (k ∷ ks) ls h = go (f k) h (kept f ks ls)
  where
    go : (b : Bool) → (pick b k (first_in f ks) ≡ 0 → ⊥) → ((first_in f ks ≡ 0 → ⊥) → first_in f (ks ++ ls) ≡ first_in f ks)
        → pick b k (first_in f (ks ++ ls)) ≡ pick b k (first_in f ks)
    go true h rest = refl
    go false h rest = rest h

-- a refusal's place in the order: it applies, and no number before it does
pub record First (f : ℕ → Bool) (ks : List ℕ) (k : ℕ) : Type 0 where
  pub earlier : List ℕ
  pub later : List ℕ
  pub place : ks ≡ earlier ++ (k ∷ later)
  pub true_here : f k ≡ true
  pub none_before : None f earlier

first_of : (f : ℕ → Bool) (ks : List ℕ) (k : ℕ) → first_in f ks ≡ k → (k ≡ 0 → ⊥) → First f ks k
unfolding first_in
first_of f [] k e h = absurd (h (sym e))
first_of f (x ∷ xs) k e h = go (f x) refl e (first_of f xs k)
  where
    go : (b : Bool) → f x ≡ b → pick b x (first_in f xs) ≡ k → (first_in f xs ≡ k → (k ≡ 0 → ⊥) → First f xs k) → First f (x ∷ xs) k
    go true hb e rest =
        record { earlier = []; later = xs; place = ap (λ z. z ∷ xs) e; true_here = ap f (sym e) ∙ hb; none_before = tt }
    go false hb e rest =
        let r = rest e h in
        record { earlier = x ∷ r.earlier; later = r.later; place = ap (λ l. x ∷ l) r.place; true_here = r.true_here; none_before = (hb, r.none_before) }

-- a call answers the first number of the order that applies
pub in_order : (rows : List Check) {k : ℕ} → refusal rows ≡ k → (k ≡ 0 → ⊥) → First (applies rows) order k
unfolding refusal
in_order rows {k} e h = first_of (applies rows) order k e h

-- ---- one more condition

-- the first number of the order, by what c adds to the rows: nothing but at its own number
pub one_more_lem : (c : Check) (rows : List Check) → (refusal (c ∷ rows) ≡ c.number → ⊥) → refusal (c ∷ rows) ≡ refusal rows
unfolding refusal first_in
one_more_lem c rows h = go order h
  where
    step : (k x y : ℕ) (here a b : Bool) → eqb c.number k ≡ here → (pick (pick here (a || b) a) k x ≡ c.number → ⊥) → ((x ≡ c.number → ⊥) → x ≡ y)
        → pick (pick here (a || b) a) k x ≡ pick a k y
    step k x y true true b e h rest = refl
    step k x y true false true e h rest = absurd (h (sym (eqb-true c.number k e)))
    step k x y true false false e h rest = rest h
    step k x y false true b e h rest = refl
    step k x y false false b e h rest = rest h

    go : (ks : List ℕ) → (first_in (applies (c ∷ rows)) ks ≡ c.number → ⊥) → first_in (applies (c ∷ rows)) ks ≡ first_in (applies rows) ks
    go [] h = refl
    go (k ∷ ks) h = step k _ _ (eqb c.number k) (applies rows k) c.fails refl h (go ks)

-- a condition that holds only where its number applies already
pub again : (c : Check) (rows : List Check) → (c.fails ≡ true → applies rows c.number ≡ true) → refusal (c ∷ rows) ≡ refusal rows
unfolding refusal first_in
again c rows h = go order
  where
    step : (k x y : ℕ) (here a b : Bool) → eqb c.number k ≡ here → applies rows k ≡ a → c.fails ≡ b → x ≡ y
        → pick (pick here (a || b) a) k x ≡ pick a k y
    step k x y true true b e f g rest = refl
    step k x y true false true e f g rest =
        let z : true ≡ false = sym (h g) ∙ ap (applies rows) (eqb-true c.number k e) ∙ f in absurd (let w : ◌≡◌ {A = ℕ} 0 1 = cc in omega arith)
    step k x y true false false e f g rest = rest
    step k x y false true b e f g rest = refl
    step k x y false false b e f g rest = rest

    go : (ks : List ℕ) → first_in (applies (c ∷ rows)) ks ≡ first_in (applies rows) ks
    go [] = refl
    go (k ∷ ks) = step k _ _ (eqb c.number k) (applies rows k) c.fails refl refl refl (go ks)

-- ---- sizes before values

-- r is the first number of the sizes that applies, or 0; or of the values
abbrev pub Sized : List Check → ℕ → Type 0
Sized rows r = r ≡ first_in (applies rows) sizes

abbrev pub Valued : List Check → ℕ → Type 0
Valued rows r = r ≡ first_in (applies rows) values

pub early : (rows : List Check) {r : ℕ} → Sized rows r → (r ≡ 0 → ⊥) → r ≡ refusal rows
unfolding refusal
early rows e h = e ∙ sym (kept (applies rows) sizes values (λ z. h (e ∙ z)))

-- no number of the first part, so the first of the second
after : (f : ℕ → Bool) (ks ls : List ℕ) → T (positive ks) → first_in f ks ≡ 0 → first_in f (ks ++ ls) ≡ first_in f ls
unfolding first_in
after f [] ls t e = refl
after f (k ∷ ks) ls t e = go (f k) refl (after f ks ls (and_yes (not (eqb k 0)) (positive ks) t).1)
  where
    go : (b : Bool) → f k ≡ b → (first_in f ks ≡ 0 → first_in f (ks ++ ls) ≡ first_in f ls) → pick (f k) k (first_in f (ks ++ ls)) ≡ first_in f ls
    go true h rest = absurd (eqb_no (and_yes (not (eqb k 0)) (positive ks) t).0 (sym (ap (λ x. pick x k (first_in f ks)) h) ∙ e))
    go false h rest = ap (λ x. pick x k (first_in f (ks ++ ls))) h ∙ rest (sym (ap (λ x. pick x k (first_in f ks)) h) ∙ e)

pub late : (rows : List Check) {s r : ℕ} → Sized rows s → s ≡ 0 → Valued rows r → r ≡ refusal rows
unfolding refusal
late rows es z er = er ∙ sym (after (applies rows) sizes values tt (sym es ∙ z))

-- where a call judges no values
pub only : (rows : List Check) {r : ℕ} → Sized rows r → first_in (applies rows) values ≡ 0 → r ≡ refusal rows
only rows {r} e n = go (eqb r 0) refl
  where
    go : (b : Bool) → eqb r 0 ≡ b → r ≡ refusal rows
    go true h = late rows e (eqb-true r 0 h) (eqb-true r 0 h ∙ sym n)
    go false h = early rows e (λ z. let y : true ≡ false = sym (eq-eqb r 0 z) ∙ h in absurd (let x : ◌≡◌ {A = ℕ} 0 1 = cc in omega arith))

-- ---- a call with a lent buffer

module _ {A : Type 0} {rows : List Check} {result before : List A} where
  pub refused : {r : ℕ} → r ≡ refusal rows → (r ≡ 0 → ⊥) → Writes rows result before r before
  refused e h = record { answered = e; holds = rw (ne_eqb (refusal rows) 0 (λ z. h (e ∙ z))) }

  pub done : {after : List A} → refusal rows ≡ 0 → after ≡ result → Writes rows result before 0 after
  done e w = record { answered = sym e; holds = rw (eq-eqb (refusal rows) 0 e) w }

-- ---- a call with an answer of its own: the refusal, by the variant `say`, or the value

pub told : {A : Type 0} (say : ℕ → A) (R r : ℕ) (x : A) → r ≡ R → (r ≡ 0 → ⊥) → say r ≡ pick (eqb R 0) x (say R)
told say R r x e h = ap say e ∙ rw (ne_eqb R 0 (λ z. h (e ∙ z)))

pub given : {A : Type 0} (R : ℕ) (v x y : A) → R ≡ 0 → v ≡ x → v ≡ pick (eqb R 0) x y
given R v x y e f = rw (eq-eqb R 0 e) f

-- a result that is another where no number applies
pub pick_by : {A : Type 0} (R : ℕ) (x y z : A) → (R ≡ 0 → x ≡ y) → pick (eqb R 0) x z ≡ pick (eqb R 0) y z
pick_by R x y z f = go (eqb R 0) refl
  where
    go : (b : Bool) → eqb R 0 ≡ b → pick b x z ≡ pick b y z
    go true e = f (eqb-true R 0 e)
    go false e = refl

pub writes_by : {A : Type 0} {rows : List Check} {result before after other : List A} {r : ℕ} → (refusal rows ≡ 0 → result ≡ other)
    → Writes rows result before r after → Writes rows other before r after
writes_by {rows = rows} {before = before} f w = record { answered = w.answered; holds = w.holds ∙ pick_by (refusal rows) _ _ before f }

-- ---- rows joined

applies_part : (rows more : List Check) (k : ℕ) → applies (rows ++ more) k ≡ false → applies rows k ≡ false
applies_part [] more k e = refl
applies_part (c ∷ cs) more k e = go (eqb c.number k) e (applies_part cs more k)
  where
    go : (b : Bool) → pick b (applies (cs ++ more) k || c.fails) (applies (cs ++ more) k) ≡ false
        → (applies (cs ++ more) k ≡ false → applies cs k ≡ false) → pick b (applies cs k || c.fails) (applies cs k) ≡ false
    go true e rest = let n = neither c.fails (applies (cs ++ more) k) e in rw (rest n.1, n.0)
    go false e rest = rest e

-- where a call has no refusal, the rows that it begins with have none
pub passed_part : (rows more : List Check) → refusal (rows ++ more) ≡ 0 → refusal rows ≡ 0
unfolding refusal first_in
passed_part rows more e = zero order (none (applies (rows ++ more)) order tt e)
  where
    zero : (ks : List ℕ) → None (applies (rows ++ more)) ks → first_in (applies rows) ks ≡ 0
    zero [] p = refl
    zero (k ∷ ks) p = rw (applies_part rows more k p.0) (zero ks p.1)

-- ---- no refusal, so no condition holds

abbrev pub NoneHolds : List Check → Type 0
NoneHolds [] = Unit {0}
NoneHolds (c ∷ cs) = (c.fails ≡ false) × NoneHolds cs

-- each number of the rows stands in the order
abbrev pub listed : List Check → Bool
listed [] = true
listed (c ∷ cs) = has c.number order && listed cs

pub none_holds : (rows : List Check) → T (listed rows) → refusal rows ≡ 0 → NoneHolds rows
none_holds rows t e = each rows t (passed rows e)
  where
    head : (n : ℕ) (b a : Bool) → pick (eqb n n) (b || a) b ≡ false → a ≡ false
    head n b a e = (neither a b (rw (eq-eqb n n refl) at e)).0

    tail : (d b a : Bool) → pick d (b || a) b ≡ false → b ≡ false
    tail true b a e = (neither a b e).1
    tail false b a e = e

    each : (rows : List Check) → T (listed rows) → ((k : ℕ) → T (has k order) → applies rows k ≡ false) → NoneHolds rows
    each [] t h = tt
    each (c ∷ cs) t h =
        let y = and_yes (has c.number order) (listed cs) t in (
          head c.number (applies cs c.number) c.fails (h c.number y.0),
          each cs y.1 (λ k l. tail (eqb c.number k) (applies cs k) c.fails (h k l)),
        )
