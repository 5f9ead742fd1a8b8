-- The field of each number, and what the first of them is.
use Rattle.std.specs.Prelude.{◌≡◌, List, ℕ}
use Rattle.scheme.specs.Checks.{Check, sizes, values, applies, first_in}
use Rattle.check_order.specs.declared.Sizes.{Sizes}
use Rattle.check_order.specs.declared.Values.{Values}

-- the modulus and the basis
pub record OfBasis (rows : List Check) (j : Sizes) : Type 0 where
  pub is-base_log : j.base_log ≡ applies rows 1
  pub is-modulus : j.modulus ≡ applies rows 2
  pub is_base : j.base ≡ applies rows 3
  pub is-levels : j.levels ≡ applies rows 5
  pub is-large : j.large ≡ applies rows 26

-- dimensions, t and E
pub record OfParameters (rows : List Check) (j : Sizes) : Type 0 where
  pub is_dimension : j.dimension ≡ applies rows 6
  pub is_plaintext : j.plaintext ≡ applies rows 7
  pub is-small : j.small ≡ applies rows 8
  pub is_error_limit : j.error_limit ≡ applies rows 13

-- lengths of what is lent
pub record OfLengths (rows : List Check) (j : Sizes) : Type 0 where
  pub is_key : j.key ≡ applies rows 9
  pub is_input : j.input ≡ applies rows 10
  pub is_output : j.output ≡ applies rows 11
  pub is_lent : j.lent ≡ applies rows 12

-- j holds what the rows of a call say of each number
pub record JudgesSizes (rows : List Check) (j : Sizes) : Type 0 where
  pub basis : OfBasis rows j
  pub parameters : OfParameters rows j
  pub lengths : OfLengths rows j

pub record JudgesValues (rows : List Check) (j : Values) : Type 0 where
  pub is_word : j.word ≡ applies rows 14
  pub is_error : j.error ≡ applies rows 15
  pub is_message : j.message ≡ applies rows 16
  pub is_tally : j.tally ≡ applies rows 17

-- r is the first of the sizes, or of the values, of every call of which j was judged
abbrev pub FirstSize : Sizes → ℕ → Type 0
FirstSize j r = (rows : List Check) → JudgesSizes rows j → r ≡ first_in (applies rows) sizes

abbrev pub FirstValue : Values → ℕ → Type 0
FirstValue j r = (rows : List Check) → JudgesValues rows j → r ≡ first_in (applies rows) values
