-- What 17 leaves of a tag, and the tag of a sum that is not refused.
--     tag_back    a tag keeps what it is made of, where 17 does not apply to it
-- Assumes nothing.
use Rattle.std.proofs.Common.{◌≡◌, refl, ap, false, ◌^◌, ◌≤◌, List, length, arith}
use lib.ListN.{length-map}
use borrow.Author.Tests.{ne_eqb, ltb-false}
use Rattle.scheme.specs.Tally.{Tally, Absent, Present, Carried, Switched, add_carried, tally_fails, count_fails, carried_fails}
use Rattle.scheme.proofs.Order.{neither}
use Rattle.lwe_tag.specs.declared.LweTag.{LweTag}
use Rattle.lwe_tag.specs.Answers.{cap, no_tally, meant_tally, held_tally, tally_for, number_of_tally, carried_of, tag_of, tag_from, tag_fails, switched_tags, sum_tag}

pub sum-within : (x y : LweTag) → carried_fails cap (add_carried (carried_of x) (carried_of y)) ≡ false
    → sum_tag x y ≡ tag_of (add_carried (carried_of x) (carried_of y))
sum-within x y e = rw e

pub counted : (g : LweTag) → tag_fails g ≡ false → g.count ≤ 65536
counted g e = ltb-false 65536 g.count (neither (count_fails g.count) (tally_fails cap (carried_of g).tally) e).0

pub switched_length : (gs : List LweTag) → length (switched_tags gs) ≡ length gs
switched_length gs = length-map gs (λ g. tag_from (Switched (carried_of g)))

-- a tally that is not refused is far below the number that stands for none
tally_back : (t : Tally) → tally_fails cap t ≡ false → meant_tally (tally_for (number_of_tally (held_tally t))) ≡ t
tally_back Absent h = refl
tally_back (Present a) h = let l : a ≤ 2 ^ 32 = ltb-false cap a h in rw (ne_eqb a no_tally (λ e. omega arith))

pub tag_back : (g : Carried) → carried_fails cap g ≡ false → carried_of (tag_of g) ≡ g
tag_back g h =
    ap (λ (t : Tally). let k : Carried = record { tally = t; count = g.count } in k)
    (tally_back g.tally (neither (count_fails g.count) (tally_fails cap g.tally) h).1)
