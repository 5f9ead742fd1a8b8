-- What judges an opening, with a plaintext modulus or without.
-- Assumes nothing.
use Rattle.std.proofs.Common.{rules, ℕ, ◌-◌, false, ◌||◌, List, Option, Some, None, length}
use Rattle.scheme.specs.Checks.{length_fails, packed_fails, words_fail}
use Rattle.primus_reduce.specs.Ring.{size_of}
use Rattle.check_order.specs.declared.Sizes.{Sizes}
use Rattle.check_order.specs.Judged.{JudgesSizes, JudgesValues}
use Rattle.lwe_parameters.specs.declared.parameter.LwePhaseParameters.{LwePhaseParameters}
use Rattle.lwe_parameters.specs.Answers.{judged_rows}
use Rattle.lwe_packed_refusals.specs.Rows.{packed_opening_rows}

module _ (P : LwePhaseParameters) (s x : List ℕ) (room : ℕ) where
  pub opening_sizes : (t : Option ℕ) (j : Sizes) → JudgesSizes (judged_rows t P) j
      → JudgesSizes (packed_opening_rows t P s x room)
      (record j {
        key = length_fails (length s) P.dimension.0;
        input = packed_fails (length x) P.dimension.0;
        output = length_fails room (length x - P.dimension.0);
      })
  opening_sizes None j h = search rules
  opening_sizes (Some t) j h = search rules

  pub opening_values : (t : Option ℕ)
      → JudgesValues (packed_opening_rows t P s x room)
      (record { word = words_fail (size_of P.modulus) x || words_fail (size_of P.modulus) s; error = false; message = false; tally = false })
  opening_values None = search rules
  opening_values (Some t) = search rules
