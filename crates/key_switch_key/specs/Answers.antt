-- What keys are judged by, and what the calls promise.
use Rattle.std.specs.Prelude.{Bool, ◌||◌, List, [], ◌∷◌, ◌++◌, ℕ, ◌+◌, ◌*◌, eqb, leb, length, Option, None, Some, Result}
use Rattle.scheme.specs.Numbers.{pick}
use Rattle.scheme.specs.Lwe.{Key, Errors}
use Rattle.scheme.specs.Switch.{entry_number, entry_of}
use Rattle.scheme.specs.Checks.{Check, row, refusal, Writes, length_fails}
use Rattle.check_order.specs.declared.refusal.Refusal.{Refusal}
use Rattle.check_order.specs.Answer.{answer}
use Rattle.key_switch_parameters.specs.declared.LweKeySwitchingParameters.{LweKeySwitchingParameters}
use Rattle.key_switch_parameters.specs.Answers.{n_in, m_in, levels_in, parameter_rows, key_words}
use Rattle.key_switch_entries.specs.Answers.{generate_rows, generated_for}

-- a key of `len` words
abbrev pub entry_rows : LweKeySwitchingParameters → ℕ → List Check
entry_rows P len = parameter_rows P ++ row (length_fails len (key_words P)) 9 ∷ []

-- an entry that a key does not have has no number, and no place
abbrev pub entry_missing : LweKeySwitchingParameters → ℕ → ℕ → Bool
entry_missing P i j = leb (n_in P) i || leb (levels_in P) j

-- where entry (i, j) of a key of `len` words begins
abbrev pub entry_answer : LweKeySwitchingParameters → ℕ → ℕ → ℕ → Result (Option ℕ) Refusal
entry_answer P len i j =
    answer (entry_rows P len) (pick (entry_missing P i j) None (Some (entry_number (levels_in P) i j * (m_in P + 1))))

-- "one entry is handed out as that part of the caller's key"; an empty part where it is missing, or the key refused
abbrev pub entry_part : LweKeySwitchingParameters → List ℕ → ℕ → ℕ → List ℕ
entry_part P key i j =
    pick (eqb (refusal (entry_rows P (length key))) 0)
    (pick (entry_missing P i j) [] (entry_of (levels_in P) (m_in P) key i j))
    []

-- "Entry (i, j) encrypts sᵢ × weight j under the output key. Masks and errors are lent in entry order"
pub record Generates (P : LweKeySwitchingParameters) (E : ℕ) (key : Key) (s' masks : List ℕ) (errors : Errors)
    (before : List ℕ) (r : ℕ) (after : List ℕ) : Type 0 where
  pub writes :
      Writes (generate_rows P E key s' masks errors (length before))
      (generated_for P key s' errors masks) before r after
