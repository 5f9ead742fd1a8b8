-- A step of the decomposer, for every value that a decomposer can hold.
use Rattle.std.specs.Prelude.{Bool, ℕ, ◌-◌, ◌/◌, ◌^◌, eqb}
use Rattle.scheme.specs.Basis.{Basis, base, dropped}
use Rattle.gadget_digits.specs.Walk.{bit, window, window_digit, window_carry, adjusted, carry_in}
use Rattle.gadget_digits.specs.declared.SignedDecomposer.{SignedDecomposer}
use Rattle.gadget_digits.specs.declared.Step.{Step}

-- the window with its carry
abbrev pub window_of : SignedDecomposer → ℕ
window_of d = window d.log_basis d.value (bit d.carry)

-- what is above the window is left for the next level
abbrev pub step_to : SignedDecomposer → ℕ → Bool → Step
step_to d z k =
    record {
      digit = z;
      carry = k;
      next =
          record {
            value = d.value / 2 ^ d.log_basis;
            carry = k;
            log_basis = d.log_basis;
            modulus_minus_basis = d.modulus_minus_basis;
          };
    }

unfoldable pub step_of : SignedDecomposer → Step
step_of d =
    step_to d
    (window_digit 32 d.log_basis d.modulus_minus_basis (window_of d))
    (window_carry d.log_basis (window_of d))

-- the carry into the lowest level, as a bool
abbrev pub first_carry : Basis → ℕ → Bool
first_carry b a = eqb (carry_in (dropped b) (adjusted b a)) 1

-- the decomposer of the word a, before its lowest level
abbrev pub decomposer_of : Basis → ℕ → SignedDecomposer
decomposer_of b a =
    record {
      value = adjusted b a / 2 ^ dropped b;
      carry = first_carry b a;
      log_basis = b.base_log;
      modulus_minus_basis = b.modulus - base b;
    }
