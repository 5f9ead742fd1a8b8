-- 4 is retired. Of each call's table: with 4 it gave the number that it gives without it, whatever the call is given.
-- Assumes nothing.
use mathlib.Core.Path.{◌≡◌, refl}
use mathlib.Core.Bool.{false}
use mathlib.Core.List.{List, [], ◌++◌}
use Prim.Native.Nat.{ℕ}
use Rattle.scheme.specs.Modulus.{Fits}
use Rattle.scheme.specs.Lwe.{Key, Errors}
use Rattle.scheme.specs.Checks.{Check, refusal, applies}
use Rattle.scheme.specs.Retired.{with_four, refusal_with_four}
use Rattle.scheme.proofs.Retired as R
use Rattle.primus_reduce.specs.Ring.{meant}
use Rattle.primus_decompose.specs.declared.primitive.basis.ApproxSignedBasis.{ApproxSignedBasis}
use Rattle.primus_decompose.specs.Answers.{rows, word_rows, digit_rows, slice_rows}
use Rattle.lwe_tag.specs.declared.LweTag.{LweTag}
use Rattle.key_switch_parameters.specs.declared.LweKeySwitchingParameters.{LweKeySwitchingParameters}
use Rattle.key_switch_parameters.specs.Answers.{parameter_rows}
use Rattle.key_switch_entries.specs.Answers.{generate_rows}
use Rattle.key_switch_key.specs.Answers.{entry_rows}
use Rattle.key_switch.specs.Answers.{switch_rows, batch_rows}
use Rattle.c_basis.specs.Bases.{output_rows, reading_rows}

-- the checks of a call on the basis b give the same first number with 4 and without it
abbrev pub Alike : ApproxSignedBasis → List Check → Type 0
Alike b checks = refusal_with_four (with_four 32 (meant b.modulus) b.log_basis.0 checks) ≡ refusal checks

-- any modulus of 32 bits, or native
abbrev Word : ApproxSignedBasis → Type 0
Word b = Fits 32 (meant b.modulus)

alike : (b : ApproxSignedBasis) → Word b → (more : List Check) → applies more 4 ≡ false → Alike b (rows b ++ more)
alike b f more none = R.same_first 32 (meant b.modulus) b.log_basis.0 b.level_count.0 more f none

-- `try_new`, `threshold`, `prepare`
pub basis_alike : (b : ApproxSignedBasis) → Word b → Alike b (rows b)
basis_alike b f = alike b f [] refl

-- `init_value_carry`, `decomposer`, `reading`
pub word_alike : (b : ApproxSignedBasis) → Word b → (a : ℕ) → Alike b (word_rows b a)
word_alike b f a = alike b f _ refl

-- `decompose`, `decompose_slice_to`
pub digits_alike : (b : ApproxSignedBasis) → Word b → (a room : ℕ) → Alike b (digit_rows b a room)
digits_alike b f a room = alike b f _ refl

pub slice_alike : (b : ApproxSignedBasis) → Word b → (xs : List ℕ) (room : ℕ) → Alike b (slice_rows b xs room)
slice_alike b f xs room = alike b f _ refl

-- `saigagalena_basis`, `saigagalena_reading`: rows of numbers for C
pub output_alike : (b : ApproxSignedBasis) → Word b → (room count : ℕ) → Alike b (output_rows b room count)
output_alike b f room count = alike b f _ refl

pub reading_alike : (b : ApproxSignedBasis) → Word b → (a room : ℕ) → Alike b (reading_rows b a room)
reading_alike b f a room = alike b f _ refl

module _ (P : LweKeySwitchingParameters) (f : Word P.basis) where
  pub parameters_alike : Alike P.basis (parameter_rows P)
  parameters_alike = alike P.basis f _ refl

  pub entry_alike : (len : ℕ) → Alike P.basis (entry_rows P len)
  entry_alike len = alike P.basis f _ refl

  pub generate_alike : (E : ℕ) (key : Key) (s' masks : List ℕ) (errors : Errors) (room : ℕ)
      → Alike P.basis (generate_rows P E key s' masks errors room)
  generate_alike E key s' masks errors room = alike P.basis f _ refl

  -- `key_switch_to`, `key_switch_batch_to`
  pub switch_alike : (key input : List ℕ) (g : LweTag) (room : ℕ) → Alike P.basis (switch_rows P key input g room)
  switch_alike key input g room = alike P.basis f _ refl

  pub batch_alike : (key input : List ℕ) (gs : List LweTag) (room : ℕ) → Alike P.basis (batch_rows P key input gs room)
  batch_alike key input gs room = alike P.basis f _ refl
