-- "Any modulus that passes checks 1 to 3 has room for one level": the table as it was with 4, for one theorem only.
use Rattle.std.specs.Prelude.{Bool, List, [], ◌∷◌, ℕ, leb, ltb, drop}
use Rattle.scheme.specs.Numbers.{pick}
use Rattle.scheme.specs.Modulus.{Modulus, bits}
use Rattle.scheme.specs.Basis.{full_count}
use Rattle.scheme.specs.Checks.{Check, row, order, applies, first_in}

-- the order, with 4 after 3
abbrev pub order_with_four : List ℕ
order_with_four = 1 ∷ 2 ∷ 3 ∷ 4 ∷ drop 3 order

-- the numbers of a list that are document 01's own: 1 to 19
abbrev pub of_01 : List ℕ → List ℕ
of_01 [] = []
of_01 (k ∷ ks) = pick (leb k 19) (k ∷ of_01 ks) (of_01 ks)

-- "4. Not one whole level fits k."
abbrev pub full_fails : ℕ → ℕ → Bool
full_fails k b = ltb (full_count k b) 1

-- a call's checks, which may stand in any order, with 4 of its basis among them
abbrev pub with_four : ℕ → Modulus → ℕ → List Check → List Check
with_four w m b rows = row (full_fails (bits w m) b) 4 ∷ rows

-- the first number by that table, or 0
abbrev pub refusal_with_four : List Check → ℕ
refusal_with_four rows = first_in (applies rows) order_with_four
