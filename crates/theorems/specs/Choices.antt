-- Demand 3 over the calls.
use Rattle.std.specs.Prelude.{◌≡◌, List, ℕ, ◌+◌, ◌*◌, ◌<◌, get_or}
use Rattle.scheme.specs.Lwe.{Key, Errors}
use Rattle.lwe_tag.specs.declared.LweTag.{LweTag}
use Rattle.lwe_tag.specs.Answers.{switched_tags}
use Rattle.key_switch_parameters.specs.declared.LweKeySwitchingParameters.{LweKeySwitchingParameters}
use Rattle.key_switch_parameters.specs.Answers.{m_in}
use Rattle.key_switch_key.specs.Answers.{Generates}
use Rattle.key_switch.specs.Answers.{SwitchesBatch}

-- "these two outputs are equal in every word for every choice of the key's masks": row t of what the batch call writes for X with the
-- tags gX over `overX`, and row u of what it writes for Y over `overY`, with each key k that `generate` writes over `over` from any masks.
-- "tally and c are no part of it" (T-07): the tags gX and gY have nothing to do with each other
abbrev pub EqualOutputs : LweKeySwitchingParameters → ℕ → Key → List ℕ → Errors → List ℕ → List ℕ → List LweTag → List ℕ → ℕ → List ℕ
    → List LweTag → List ℕ → ℕ → Type 0
EqualOutputs P E key s' errors over X gX overX t Y gY overY u =
    (masks k x y : List ℕ) → Generates P E key s' masks errors over 0 k
    → SwitchesBatch P k X gX overX 0 (switched_tags gX) x → SwitchesBatch P k Y gY overY 0 (switched_tags gY) y
    → (c : ℕ) → c < m_in P + 1 → get_or x (t * (m_in P + 1) + c) 0 ≡ get_or y (u * (m_in P + 1) + c) 0

-- what the calls write with these masks: a key, and the outputs for X and for Y
pub record Choice (P : LweKeySwitchingParameters) (E : ℕ) (key : Key) (s' : List ℕ) (errors : Errors)
    (over X : List ℕ) (gX : List LweTag) (overX Y : List ℕ) (gY : List LweTag) (overY masks : List ℕ) : Type 0 where
  pub k : List ℕ
  pub x : List ℕ
  pub y : List ℕ
  pub generates : Generates P E key s' masks errors over 0 k
  pub switches_x : SwitchesBatch P k X gX overX 0 (switched_tags gX) x
  pub switches_y : SwitchesBatch P k Y gY overY 0 (switched_tags gY) y
