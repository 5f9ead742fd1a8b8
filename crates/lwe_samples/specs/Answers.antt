-- What the sample of one body is judged by, and what it promises.
use Rattle.std.specs.Prelude.{Bool, List, [], ◌∷◌, ℕ, ◌+◌, ◌-◌, nat_le, length, Result}
use Rattle.scheme.specs.Tally.{Sample}
use Rattle.scheme.specs.Lwe.{extracted}
use Rattle.scheme.specs.Checks.{Check, row, modulus_fails, dimension_fails, length_fails, packed_fails, words_fail}
use Rattle.primus_reduce.specs.Ring.{meant, size_of}
use Rattle.primus_reduce.specs.declared.modulus.Modulus.{Modulus}
use Rattle.check_order.specs.declared.refusal.Refusal.{Refusal}
use Rattle.lwe_tag.specs.declared.LweTag.{LweTag}
use Rattle.lwe_tag.specs.Answers.{carried_of, tag_from, tag_fails, WritesTagged}
use Rattle.primus_lattice.specs.declared.dimension.LweDimension.{LweDimension}

-- 10: a packed input of `len` words, n of them mask words, has no body i
abbrev pub body_fails : ℕ → ℕ → ℕ → Bool
body_fails len n i = nat_le (len - n) i

-- a sample of body i of the packed ciphertext x with the tag g, into `room` words, judges 2, 6, 10, 11, 14 and 17
abbrev pub extract_rows : Modulus → ℕ → List ℕ → LweTag → ℕ → ℕ → List Check
extract_rows m n x g i room =
    row (modulus_fails (meant m)) 2
    ∷ row (dimension_fails n) 6
    ∷ row (packed_fails (length x) n) 10
    ∷ row (body_fails (length x) n i) 10
    ∷ row (length_fails room (n + 1)) 11
    ∷ row (words_fail (size_of m) x) 14
    ∷ row (tag_fails g) 17
    ∷ []

-- the sample of body i, as a ciphertext of one message, with the c of the packed one
pub record Extracts (m : Modulus) (n : LweDimension) (x : List ℕ) (g : LweTag) (i : ℕ) (before : List ℕ)
    (answer : Result LweTag Refusal) (after : List ℕ) : Type 0 where
  pub writes :
      WritesTagged (extract_rows m n.0 x g i (length before)) (tag_from (Sample (carried_of g))) (extracted (size_of m) n.0 x i)
      before answer after
