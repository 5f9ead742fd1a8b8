-- The tag of what was saved: 17 judges it as what was saved, and where 17 does not apply it stands for it.
-- Assumes nothing.
use Rattle.std.proofs.Common.{◌≡◌, refl, sym, ap, ◌∙◌, Bool, true, false, ◌||◌, List, ℕ, ◌-◌, Option, Some, None, eqb, ltb, arith}
use borrow.Author.Tests.{eqb-true, lt-ltb}
use Rattle.scheme.specs.Numbers.{pick}
use Rattle.scheme.specs.Tally.{Tally, Absent, Present, Carried, carried_saved, tally_fails, count_fails, carried_fails}
use Rattle.scheme.proofs.Order.{neither}
use Rattle.lwe_tag.specs.Answers.{cap, no_tally, meant_tally, held_tally, tally_for, number_of_tally, carried_of, tag_fails, tag_saved}
use Rattle.saved_head.specs.Head.{beside_of, has_tallies}
use Rattle.saved.specs.Layout.{held_number, saved_tally, saved_number, saved_count, saved_carried, saved_tag}

-- a number of 64 bits means the same once a tag has kept it
number_kept : (a : ℕ) → meant_tally (tally_for (number_of_tally (held_tally (meant_tally (tally_for a))))) ≡ meant_tally (tally_for a)
number_kept a = go (eqb a no_tally) refl
  where
    go : (b : Bool) → eqb a no_tally ≡ b
        → meant_tally (tally_for (number_of_tally (held_tally (meant_tally (pick b None (Some a)))))) ≡ meant_tally (pick b None (Some a))
    go true e = refl
    go false e = rw e

-- one number, by whether it is the one that a tag keeps for none
number_fails : (a : ℕ) (b : Bool) → eqb a no_tally ≡ b → tally_fails cap (meant_tally (tally_for (pick b (no_tally - 1) a))) ≡ ltb cap a
number_fails a true e = sym (lt-ltb cap a (omega (arith, eqb-true a no_tally e)))
number_fails a false e = rw e

number_is : (a : ℕ) (b : Bool) → eqb a no_tally ≡ b → ltb cap a ≡ false → meant_tally (tally_for (pick b (no_tally - 1) a)) ≡ Present a
number_is a true e h =
    let t : true ≡ false = sym (lt-ltb cap a (omega (arith, eqb-true a no_tally e))) ∙ h in
    absurd (let x : ◌≡◌ {A = ℕ} 0 1 = cc in omega arith)
number_is a false e h = rw e

-- a file's tally, by whether it has tallies
module _ (a : ℕ) where
  tally_judged : (b : Bool) → tally_fails cap (meant_tally (tally_for (pick b (held_number a) no_tally))) ≡ tally_fails cap (pick b (Present a) Absent)
  tally_judged true = number_fails a (eqb a no_tally) refl
  tally_judged false = refl

  tally_meant : (b : Bool) → tally_fails cap (pick b (Present a) Absent) ≡ false → meant_tally (tally_for (pick b (held_number a) no_tally)) ≡ pick b (Present a) Absent
  tally_meant true h = number_is a (eqb a no_tally) refl h
  tally_meant false h = refl

-- a tag made of a number and perhaps a c
made_fails : (a : ℕ) (t : Tally) (c : Option ℕ) → tally_fails cap (meant_tally (tally_for a)) ≡ tally_fails cap t
    → tag_fails (tag_saved (meant_tally (tally_for a)) c) ≡ carried_fails cap (carried_saved t c)
made_fails a t None e = refl
made_fails a t (Some c) e = ap (λ u. tally_fails cap u || count_fails c) (number_kept a) ∙ ap (λ b. b || count_fails c) e

made_is : (a : ℕ) (t : Tally) (c : Option ℕ) → (tally_fails cap t ≡ false → meant_tally (tally_for a) ≡ t) → carried_fails cap (carried_saved t c) ≡ false
    → carried_of (tag_saved (meant_tally (tally_for a)) c) ≡ carried_saved t c
made_is a t None e h = refl
made_is a t (Some c) e h =
    let is : meant_tally (tally_for a) ≡ t = e (neither (count_fails c) (tally_fails cap t) h).1 in
    ap (λ (u : Tally). let g : Carried = record { tally = u; count = c } in g) (number_kept a ∙ is)

pub saved_fails : (s : List ℕ) (i : ℕ) → tag_fails (saved_tag s i) ≡ carried_fails cap (saved_carried s i)
saved_fails s i = made_fails (saved_number s i) (saved_tally s i) (saved_count s i) (tally_judged _ (has_tallies (beside_of s)))

pub saved_is : (s : List ℕ) (i : ℕ) → carried_fails cap (saved_carried s i) ≡ false → carried_of (saved_tag s i) ≡ saved_carried s i
saved_is s i h = made_is (saved_number s i) (saved_tally s i) (saved_count s i) (tally_meant _ (has_tallies (beside_of s))) h
