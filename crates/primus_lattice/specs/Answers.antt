-- The answers of the calls: the value that a definition gives, or the first refusal that applies.
use Rattle.std.specs.Prelude.{ℕ, ◌+◌, List, [], ◌∷◌, length, Result}
use Rattle.scheme.specs.Tally.{add_carried}
use Rattle.scheme.specs.Lwe.{add_words}
use Rattle.scheme.specs.Checks.{Check, row}
use Rattle.scheme.specs.Checks.{modulus_fails, dimension_fails, length_fails, words_fail}
use Rattle.primus_reduce.specs.Ring.{meant, size_of}
use Rattle.primus_reduce.specs.declared.modulus.Modulus.{Modulus}
use Rattle.check_order.specs.declared.refusal.Refusal.{Refusal}
use Rattle.check_order.specs.Answer.{answer}
use Rattle.primus_lattice.specs.declared.dimension.LweDimension.{LweDimension}
use Rattle.lwe_tag.specs.declared.LweTag.{LweTag}
use Rattle.lwe_tag.specs.Answers.{carried_of, tag_of, tag_rows, WritesTagged}

-- a dimension judges 6
abbrev pub dimension_rows : ℕ → List Check
dimension_rows n = row (dimension_fails n) 6 ∷ []

-- a dimension of any number
abbrev pub given : ℕ → LweDimension
given n = record { 0 = n }

abbrev pub dimension_answer : ℕ → Result LweDimension Refusal
dimension_answer n = answer (dimension_rows n) (given n)

-- a sum of x with the tag g and y with the tag h judges 2, 6, 10, 14 and 17
abbrev pub add_rows : Modulus → ℕ → List ℕ → LweTag → List ℕ → LweTag → List Check
add_rows m n x g y h =
    row (modulus_fails (meant m)) 2
    ∷ row (dimension_fails n) 6
    ∷ row (length_fails (length x) (n + 1)) 10
    ∷ row (length_fails (length y) (n + 1)) 10
    ∷ row (words_fail (size_of m) x) 14
    ∷ row (words_fail (size_of m) y) 14
    ∷ tag_rows g h

-- "Adding two ciphertexts adds their words modulo q and their tallies."; "adding two adds these numbers" (T-02)
pub record Adds (m : Modulus) (n : LweDimension) (x : List ℕ) (g : LweTag) (y : List ℕ) (h : LweTag)
    (given : Result LweTag Refusal) (after : List ℕ) : Type 0 where
  pub writes :
      WritesTagged (add_rows m n.0 x g y h) (tag_of (add_carried (carried_of g) (carried_of h))) (add_words (size_of m) x y)
      x given after
