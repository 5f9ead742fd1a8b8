-- What the constants make of a word.
use Rattle.std.specs.Prelude.{ℕ, ◌+◌, ◌/◌, ◌%◌, ◌^◌, ◌<◌, List, length, ℤ, pos, ◌-ℤ◌, ◌==◌, nat_lt, slice_index}
use Rattle.scheme.specs.Numbers.{pick}
use Rattle.scheme.specs.Basis.{Basis}
use Rattle.scheme.specs.Reading as R
use Rattle.gadget_digits.specs.Walk.{adjusted, carry_in}
use Rattle.gadget_digits.specs.Step.{first_carry}
use Rattle.gadget_digits.specs.declared.SignedDecomposer.{SignedDecomposer}
use Rattle.gadget_constants.specs.declared.prepared.PreparedBasis.{PreparedBasis}
use Rattle.gadget_constants.specs.declared.word.ValueCarry.{ValueCarry}
use Rattle.gadget_constants.specs.declared.word.Reading.{Reading}

-- a below T, else `add` more, as a word
abbrev pub adjust_by : ℕ → ℕ → ℕ → ℕ
adjust_by T add a = pick (nat_lt a T) a ((a + add) % 2 ^ 32)

-- the adjusted word and the carry into the lowest level, by the constants at hand, whatever they are
abbrev pub init_from : PreparedBasis → ℕ → ValueCarry
init_from p a =
    record {
      value = adjust_by p.threshold p.add a;
      carry = (carry_in p.drop_bits (adjust_by p.threshold p.add a) == 1);
    }

-- the decomposer before its lowest level; the constants of an accepted basis give `decomposerOf`
abbrev pub decomposer_from : PreparedBasis → ℕ → SignedDecomposer
decomposer_from p a =
    record {
      value = (init_from p a).value / 2 ^ p.drop_bits;
      carry = (init_from p a).carry;
      log_basis = p.log_basis;
      modulus_minus_basis = p.modulus_minus_basis;
    }

-- the adjusted word and the carry into the lowest level, of an accepted basis
abbrev pub init_of : Basis → ℕ → ValueCarry
init_of b a = record { value = adjusted b a; carry = first_carry b a }

-- the reading and ε
abbrev pub reading_of : Basis → ℕ → Reading
reading_of b a = record { reading = R.reading b a; error = R.rounding b a }

-- a stored digit as a signed number, with B as a word and q: itself below B/2, else q less
abbrev pub signed_by : ℕ → ℕ → ℕ → ℤ
signed_by B q w = pick (nat_lt w (B / 2)) (pos w) (pos w -ℤ pos q)

-- every word is below q
abbrev pub Words : ℕ → List ℕ → Type 0
Words q xs = (i : ℕ) → i < length xs → slice_index xs i < q
