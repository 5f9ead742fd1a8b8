-- What the checks of a switch leave.
-- Assumes nothing.
use mathlib.Core.Path.{◌≡◌, sym}
use mathlib.Core.Bool.{false, ◌||◌}
use mathlib.Core.List.{List, ◌++◌}
use Prim.Native.Nat.{ℕ, ◌+◌, ◌*◌, ◌/◌, ◌%◌}
use native.Mathlib.Nat.{div-add-mod}
use native.Mathlib.Omega.{arith}
use lib.ListN.{length}
use borrow.Author.Tests.{eqb-true, not-false}
use Rattle.scheme.specs.Checks.{Check, refusal, length_fails, batch_fails, words_fail}
use Rattle.scheme.proofs.Checks.{length_ok, words_ok}
use Rattle.scheme.proofs.Order.{passed, neither}
use Rattle.key_switch_parameters.specs.declared.LweKeySwitchingParameters.{LweKeySwitchingParameters}
use Rattle.key_switch_parameters.specs.Answers.{q_in, n_in, m_in, key_words, parameter_rows}
use Rattle.key_switch_parameters.proofs.Passed.{judged}
use Rattle.lwe_tag.specs.declared.LweTag.{LweTag}
use Rattle.key_switch.specs.Answers.{count_in, switch_rows, batch_rows, Switchable}

batch_whole : (len n : ℕ) → batch_fails len n ≡ false → len ≡ len / (n + 1) * (n + 1)
batch_whole len n e = omega (arith, div-add-mod len (n + 1), eqb-true (len % (n + 1)) 0 (not-false _ e))

module _ {P : LweKeySwitchingParameters} {key input : List ℕ} {room : ℕ} where
  -- what both leave of their words, where the lengths are those of `count` ciphertexts
  switchable : (rest : List Check) (count : ℕ) → 0 ≡ refusal (parameter_rows P ++ rest) → length_fails (length key) (key_words P) ≡ false
      → (words_fail (q_in P) input || words_fail (q_in P) key) ≡ false → length input ≡ count * (n_in P + 1) → room ≡ count * (m_in P + 1)
      → Switchable P key input count room
  switchable rest count e nine fourteen inputs fits =
      let j = judged P _ (sym e) in
      let words = neither (words_fail (q_in P) key) (words_fail (q_in P) input) fourteen in
      record {
        accepted = j.accepted;
        short = j.input_most;
        narrow = j.output_most;
        keyed = length_ok _ _ nine;
        inputs = inputs;
        fits = fits;
        keys = words_ok _ key words.0;
        words = words_ok _ input words.1;
      }

  pub batch_passed : (gs : List LweTag) → 0 ≡ refusal (batch_rows P key input gs room) → Switchable P key input (count_in P (length input)) room
  batch_passed gs told =
      let no = passed (batch_rows P key input gs room) (sym told) in
      switchable _ _ told (no 9 tt) (no 14 tt) (batch_whole (length input) (n_in P) (no 10 tt)) (length_ok _ _ (no 11 tt))

  pub one_passed : (g : LweTag) → 0 ≡ refusal (switch_rows P key input g room) → Switchable P key input 1 room
  one_passed g told =
      let no = passed (switch_rows P key input g room) (sym told) in
      switchable _ 1 told (no 9 tt) (no 14 tt) (omega (arith, length_ok (length input) (n_in P + 1) (no 10 tt))) (omega (arith, length_ok room (m_in P + 1) (no 11 tt)))
