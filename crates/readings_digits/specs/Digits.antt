-- The digits of a word as the program `readings` shows them: "digits (signed, lowest first)".
use Rattle.std.specs.Prelude.{List, [], ◌∷◌, ℕ, zero, suc, ltb, ℤ, pos}
use Rattle.scheme.specs.Numbers.{pick}
use Rattle.scheme.specs.Digits.{digit}
use Rattle.gadget_digits.specs.declared.SignedDecomposer.{SignedDecomposer}
use Rattle.gadget_digits.specs.Column.{step_digit}
use Rattle.primus_decompose.specs.Answers as A
use Rattle.primus_decompose.specs.declared.primitive.basis.ApproxSignedBasis.{ApproxSignedBasis}

-- f 0, f 1, … of n terms
unfoldable pub numbers : ℕ → (ℕ → ℤ) → List ℤ
numbers zero f = []
numbers (suc n) f = f 0 ∷ numbers n (λ i. f (suc i))

-- digit j by steps of a decomposer, for j below L
abbrev pub stepped_digit : ApproxSignedBasis → SignedDecomposer → ℕ → ℤ
stepped_digit b d j = pick (ltb j b.level_count.0) (A.signed_digit b (step_digit d j)) (pos 0)

-- "digits (signed, lowest first)": digit j for j below L
abbrev pub shown_digit : ApproxSignedBasis → ℕ → ℕ → ℤ
shown_digit b a j = pick (ltb j b.level_count.0) (digit (A.basis b) a j) (pos 0)
