-- Laws of the leaves and of the calls.
-- Assumes nothing.
use Rattle.std.proofs.Common.{◌≡◌, ℕ, ◌+◌, false, List, length, sym, ◌∙◌}
use Rattle.scheme.specs.Tally.{add_carried, carried_fails}
use Rattle.scheme.specs.Checks.{refusal, length_fails, words_fail}
use Rattle.scheme.proofs.Checks.{length_ok}
use Rattle.scheme.proofs.Order.{passed, neither}
use Rattle.primus_reduce.specs.Ring.{size_of}
use Rattle.primus_reduce.specs.declared.modulus.Modulus.{Modulus}
use Rattle.lwe_tag.specs.declared.LweTag.{LweTag}
use Rattle.lwe_tag.specs.Answers.{cap, carried_of, tag_fails}
use Rattle.primus_lattice.specs.Answers.{add_rows}

-- ---- what the checks of a sum leave

pub record Addable (q : ℕ) (x : List ℕ) (g : LweTag) (y : List ℕ) (h : LweTag) : Type 0 where
  pub same : length x ≡ length y
  pub first : words_fail q x ≡ false
  pub second : words_fail q y ≡ false
  pub sums : carried_fails cap (add_carried (carried_of g) (carried_of h)) ≡ false

pub addable : (m : Modulus) (n : ℕ) (x : List ℕ) (g : LweTag) (y : List ℕ) (h : LweTag) → 0 ≡ refusal (add_rows m n x g y h)
    → Addable (size_of m) x g y h
addable m n x g y h e =
    let no = passed (add_rows m n x g y h) (sym e) in
    let lengths = neither (length_fails (length x) (n + 1)) (length_fails (length y) (n + 1)) (no 10 tt) in
    let words = neither (words_fail (size_of m) x) (words_fail (size_of m) y) (no 14 tt) in
    let given = neither (tag_fails g) _ (no 17 tt) in
    record {
      same = length_ok _ _ lengths.0 ∙ sym (length_ok _ _ lengths.1);
      first = words.0;
      second = words.1;
      sums = (neither (tag_fails h) (carried_fails cap (add_carried (carried_of g) (carried_of h))) given.1).1;
    }
