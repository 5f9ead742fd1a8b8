-- What a tag stands for, the mark, and what a call that writes a ciphertext promises.
use Rattle.std.specs.Prelude.{◌≡◌, List, [], ◌∷◌, ◌++◌, ℕ, Bool, ◌-◌, ◌^◌, ◌==◌, Option, Some, None, Result, map}
use Rattle.std.specs.List.{list_any}
use Rattle.scheme.specs.Numbers.{pick}
use Rattle.scheme.specs.Tally as S
use Rattle.scheme.specs.Checks.{Check, row, refusal, codec_rows}
use Rattle.primus_reduce.specs.Ring.{meant, size_of}
use Rattle.primus_reduce.specs.declared.modulus.Modulus.{Modulus}
use Rattle.check_order.specs.declared.refusal.Refusal.{Refusal}
use Rattle.check_order.specs.Answer.{answer}
use Rattle.lwe_tag.specs.declared.LweTag.{LweTag}

-- the tally that a value holds, and the value that holds one
abbrev pub meant_tally : Option ℕ → S.Tally
meant_tally None = S.Absent
meant_tally (Some a) = S.Present a

abbrev pub held_tally : S.Tally → Option ℕ
held_tally S.Absent = None
held_tally (S.Present a) = Some a

-- a tally as one number: 2^64 − 1 where there is none; every other number above 2^32 is refused by 17
abbrev pub no_tally : ℕ
no_tally = 2 ^ 64 - 1

abbrev pub tally_for : ℕ → Option ℕ
tally_for a = pick (a == no_tally) None (Some a)

abbrev pub number_of_tally : Option ℕ → ℕ
number_of_tally None = no_tally
number_of_tally (Some a) = a

-- what a tag says, and the tag that says it
abbrev pub carried_of : LweTag → S.Carried
carried_of g = record { tally = meant_tally (tally_for g.tally); count = g.count }

abbrev pub tag_of : S.Carried → LweTag
tag_of c = record { tally = number_of_tally (held_tally c.tally); count = c.count }

-- the tag of what a call writes
abbrev pub tag_from : S.Origin → LweTag
tag_from o = tag_of (S.carried_from o)

-- the tag of what was saved
abbrev pub tag_saved : S.Tally → Option ℕ → LweTag
tag_saved a c = tag_of (S.carried_saved a c)

-- the tag of one encryption of which no tally is known
abbrev pub untallied : LweTag
untallied = tag_saved S.Absent None

-- 17: "exceeds 2^32"
abbrev pub cap : ℕ
cap = 2 ^ 32

-- the tag of a sum; where the sum is refused, one without a tally
abbrev pub sum_tag : LweTag → LweTag → LweTag
sum_tag x y =
    pick (S.carried_fails cap (S.add_carried (carried_of x) (carried_of y)))
    untallied (tag_of (S.add_carried (carried_of x) (carried_of y)))

-- 17, of a tag that is given
abbrev pub tag_fails : LweTag → Bool
tag_fails g = S.carried_fails cap (carried_of g)

-- of each of some tags
abbrev pub tags_fail : List LweTag → Bool
tags_fail gs = list_any tag_fails gs

-- the tags after a switch of each
abbrev pub switched_tags : List LweTag → List LweTag
switched_tags gs = map (λ g. tag_from (S.Switched (carried_of g))) gs

-- "A tally, given or summed", and so c
abbrev pub tag_rows : LweTag → LweTag → List Check
tag_rows x y =
    row (tag_fails x) 17
    ∷ row (tag_fails y) 17
    ∷ row (S.carried_fails cap (S.add_carried (carried_of x) (carried_of y))) 17
    ∷ []

-- the mark judges 2, 7, 8 and 17
abbrev pub mark_rows : LweTag → Modulus → ℕ → List Check
mark_rows x m t = codec_rows t (meant m) ++ row (tag_fails x) 17 ∷ []

abbrev pub mark_answer : LweTag → Modulus → ℕ → Result Bool Refusal
mark_answer x m t = answer (mark_rows x m t) (S.good (size_of m) t (carried_of x))

-- A call with these rows writes ciphertexts, each with this tag. Where no number applies it answers the tag, and the buffer holds the
-- result; else it answers the first refusal and no tag, and the buffer holds what it held.
pub record WritesTagged (rows : List Check) (tag : LweTag) (result before : List ℕ) (given : Result LweTag Refusal) (after : List ℕ)
    : Type 0 where
  pub answered : given ≡ answer rows tag
  pub holds : after ≡ pick (refusal rows == 0) result before
