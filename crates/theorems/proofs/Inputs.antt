-- A switch judged on another key or another input: what passed before passes again.
-- Assumes nothing.
use mathlib.Core.Path.{◌≡◌}
use mathlib.Core.Bool.{Bool, false}
use mathlib.Core.List.{List, [], ◌∷◌, ◌++◌}
use Prim.Native.Nat.{ℕ}
use Rattle.scheme.specs.Checks.{row, refusal}
use Rattle.scheme.proofs.Order.{passed, neither}
use Rattle.lwe_tag.specs.declared.LweTag.{LweTag}
use Rattle.key_switch_parameters.specs.declared.LweKeySwitchingParameters.{LweKeySwitchingParameters}
use Rattle.key_switch_parameters.specs.Answers.{parameter_rows}
use Rattle.key_switch.specs.Answers.{batch_rows}

-- the refusal by what 9, 10, 11, 12, 14 of the key and of the input, and 17, say
abbrev pub refusal_by : LweKeySwitchingParameters → Bool → Bool → Bool → Bool → Bool → Bool → Bool → ℕ
refusal_by P short bad wrong lent foreign words tags =
    refusal (parameter_rows P ++ row short 9 ∷ row bad 10 ∷ row wrong 11 ∷ row foreign 14 ∷ row words 14 ∷ row lent 12 ∷ row tags 17 ∷ [])

none_again : (P : LweKeySwitchingParameters) (a b c d e f g : Bool) → refusal_by P a b c d e f g ≡ 0 → refusal_by P false false false false false false false ≡ 0
none_again P a b c d e f g h =
    let no = passed (parameter_rows P ++ row a 9 ∷ row b 10 ∷ row c 11 ∷ row e 14 ∷ row f 14 ∷ row d 12 ∷ row g 17 ∷ []) h in
    let words = neither e f (no 14 tt) in
    rw (no 9 tt, no 10 tt, no 11 tt, no 12 tt, words.0, words.1, no 17 tt) at h

pub inputs-accepted : (P : LweKeySwitchingParameters) (key X : List ℕ) (gs : List LweTag) (room : ℕ) → refusal (batch_rows P key X gs room) ≡ 0
    → {a b c d e f g : Bool} → a ≡ false → b ≡ false → c ≡ false → d ≡ false → e ≡ false → f ≡ false → g ≡ false
    → refusal_by P a b c d e f g ≡ 0
inputs-accepted P key X gs room h ea eb ec ed ee ef eg = rw (ea, eb, ec, ed, ee, ef, eg) (none_again P _ _ _ _ _ _ _ h)
