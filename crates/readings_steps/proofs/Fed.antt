-- Readers fed byte by byte, and the places of what they say.
-- Assumes nothing.
use mathlib.Core.Path.{◌≡◌, refl, sym, ap, ap₂, ◌∙◌}
use mathlib.Core.List.{List, [], ◌∷◌, ◌++◌}
use Prim.Native.Nat.{ℕ, zero, suc, ◌+◌, ◌≤◌, ◌<◌}
use native.Mathlib.Numerals.{add-one}
use native.Mathlib.Omega.{arith}
use lib.ListN.{length, take, get_or, set, replicate}
use lib.Seq.{take-suc, take_all, length-take-le}
use Rattle.readings_core.specs.declared.command.Turn.{Turn}
use Rattle.readings_reader.specs.declared.reader.Reader.{Reader}
use Rattle.readings_reader.specs.Run.{fed}
use Rattle.readings_steps.specs.declared.step.Step.{Step}
use Rattle.readings_steps.specs.Steps.{fed_all, turns_fed, places, step_of}

pub fed-append : (m : Reader) (xs ys : List ℕ) → fed_all m (xs ++ ys) ≡ fed_all (fed_all m xs) ys
unfolding fed_all
fed-append m [] ys = refl
fed-append m (x ∷ xs) ys = fed-append (fed m x) xs ys

pub length-turns : (m : Reader) (xs : List ℕ) → length (turns_fed m xs) ≡ length xs
unfolding turns_fed
length-turns m [] = refl
length-turns m (x ∷ xs) = ap suc (length-turns (fed m x) xs)

turns-append : (m : Reader) (xs : List ℕ) (y : ℕ) → turns_fed m (xs ++ y ∷ []) ≡ turns_fed m xs ++ (fed (fed_all m xs) y).turn ∷ []
unfolding fed_all turns_fed
turns-append m [] y = refl
turns-append m (x ∷ xs) y = ap (λ (ts : List Turn). (fed m x).turn ∷ ts) (turns-append (fed m x) xs y)

-- one byte more of a slice
one_more_lem : (xs : List ℕ) (i : ℕ) → i < length xs → take (i + 1) xs ≡ take i xs ++ get_or xs i 0 ∷ []
one_more_lem xs i h = ap (λ n. take n xs) (add-one i) ∙ take-suc xs i 0 h

pub fed-next : (m r : Reader) (xs : List ℕ) (i : ℕ) → i < length xs → r ≡ fed_all m (take i xs) → fed r (get_or xs i 0) ≡ fed_all m (take (i + 1) xs)
unfolding fed_all
fed-next m r xs i h e =
    ap (λ s. fed s (get_or xs i 0)) e ∙ sym (fed-append m (take i xs) (get_or xs i 0 ∷ [])) ∙ ap (fed_all m) (sym (one_more_lem xs i h))

-- ---- places

pub length-places : (n : ℕ) (t : Turn) (ts : List Turn) → length (places n t ts) ≡ n
unfolding places
length-places zero t ts = refl
length-places (suc n) t [] = ap suc (length-places n t [])
length-places (suc n) t (u ∷ ts) = ap suc (length-places n t ts)

pub no_turns : (n : ℕ) (t : Turn) → replicate n t ≡ places n t []
unfolding places
no_turns zero t = refl
no_turns (suc n) t = ap (λ (ts : List Turn). t ∷ ts) (no_turns n t)

-- a turn more stands at the first place that is left, where there is one
put : (n : ℕ) (t : Turn) (ts : List Turn) (u : Turn) → set (places n t ts) (length ts) u ≡ places n t (ts ++ u ∷ [])
unfolding places
put zero t ts u = refl
put (suc n) t [] u = refl
put (suc n) t (v ∷ ts) u = ap (λ (ts : List Turn). v ∷ ts) (put n t ts u)

full : (n : ℕ) (t : Turn) (ts : List Turn) (u : Turn) → n ≤ length ts → places n t ts ≡ places n t (ts ++ u ∷ [])
unfolding places
full zero t ts u h = refl
full (suc n) t [] u h = absurd (omega arith)
full (suc n) t (v ∷ ts) u h = ap (λ (ts : List Turn). v ∷ ts) (full n t ts u (omega arith))

-- as many places as there are turns hold the first n of them
first_places : (n : ℕ) (t : Turn) (ts : List Turn) → take (length ts) (places n t ts) ≡ take n ts
unfolding places
first_places zero t [] = refl
first_places (suc n) t [] = refl
first_places zero t (u ∷ ts) = refl
first_places (suc n) t (u ∷ ts) = ap (λ (ts : List Turn). u ∷ ts) (first_places n t ts)

pub take_places : (n : ℕ) (t : Turn) (ts : List Turn) → length ts ≤ n → take (length ts) (places n t ts) ≡ ts
take_places n t ts h = first_places n t ts ∙ take_all n ts h

-- of any number of bytes, the turns that a step counts are those of the first 64
pub first_turns : (m : Reader) (xs : List ℕ) → take (step_of m xs).count (step_of m xs).turns ≡ take 64 (turns_fed m xs)
first_turns m xs =
    ap (λ n. take n (step_of m xs).turns) (sym (length-turns m xs)) ∙ first_places 64 m.turn (turns_fed m xs)

-- the places after one byte more
module _ (n : ℕ) (m r : Reader) (xs : List ℕ) (i : ℕ) (h : i < length xs) (e : r ≡ fed_all m (take i xs)) where
  counted : length (turns_fed m (take i xs)) ≡ i
  counted = length-turns m (take i xs) ∙ length-take-le i xs (omega arith)

  turns_next : turns_fed m (take i xs) ++ (fed r (get_or xs i 0)).turn ∷ [] ≡ turns_fed m (take (i + 1) xs)
  turns_next =
      ap (λ s. turns_fed m (take i xs) ++ (fed s (get_or xs i 0)).turn ∷ []) e ∙ sym (turns-append m (take i xs) (get_or xs i 0))
      ∙ ap (turns_fed m) (sym (one_more_lem xs i h))

  pub put_next : (t : Turn) (ts : List Turn) → ts ≡ places n t (turns_fed m (take i xs))
      → set ts i (fed r (get_or xs i 0)).turn ≡ places n t (turns_fed m (take (i + 1) xs))
  put_next t ts f =
      ap₂ (λ (ts : List Turn) (j : ℕ). set ts j (fed r (get_or xs i 0)).turn) f (sym counted)
      ∙ put n t (turns_fed m (take i xs)) (fed r (get_or xs i 0)).turn ∙ ap (places n t) turns_next

  pub full_next : n ≤ i → (t : Turn) (ts : List Turn) → ts ≡ places n t (turns_fed m (take i xs)) → ts ≡ places n t (turns_fed m (take (i + 1) xs))
  full_next k t ts f = f ∙ full n t (turns_fed m (take i xs)) (fed r (get_or xs i 0)).turn (omega (arith, counted)) ∙ ap (places n t) turns_next

-- all bytes are fed
pub step_so : (m r : Reader) (xs : List ℕ) (n : ℕ) (ts : List Turn) → length xs ≤ n → r ≡ fed_all m (take n xs)
    → ts ≡ places 64 m.turn (turns_fed m (take n xs))
    → ◌≡◌ {A = Step} (record { reader = r; turns = ts; count = length xs }) (step_of m xs)
step_so m r xs n ts k er et =
    let all : take n xs ≡ xs = take_all n xs k in
    ap₂ (λ (r : Reader) (ts : List Turn). record { reader = r; turns = ts; count = length xs })
    (er ∙ ap (fed_all m) all) (et ∙ ap (λ (ys : List ℕ). places 64 m.turn (turns_fed m ys)) all)
