-- What the loop over levels leaves in the output, place by place.
use Rattle.std.specs.Prelude.{◌≡◌, List, ◌≢◌, ℕ, zero, suc, ◌+◌, ◌*◌, ◌<◌, length, get_or}
use Rattle.gadget_digits.specs.declared.SignedDecomposer.{SignedDecomposer}
use Rattle.gadget_digits.specs.Step.{step_of}

-- the decomposer before level j
unfoldable pub after : ℕ → SignedDecomposer → SignedDecomposer
after zero d = d
after (suc j) d = (step_of (after j d)).next

-- the digit of level j
abbrev pub step_digit : SignedDecomposer → ℕ → ℕ
step_digit d j = (step_of (after j d)).digit

-- place i of each of L runs of n words holds the digits from d on; every other place holds what it held
pub record Column (d : SignedDecomposer) (L n i : ℕ) (before after : List ℕ) : Type 0 where
  pub same_length : length after ≡ length before
  pub digits : (j : ℕ) → j < L → get_or after (j * n + i) 0 ≡ step_digit d j
  pub others : (j k : ℕ) → k < n → k ≢ i → get_or after (j * n + k) 0 ≡ get_or before (j * n + k) 0
