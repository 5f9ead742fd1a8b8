-- What the two calls are judged by, and what they promise.
use Rattle.std.specs.Prelude.{◌≡◌, Bool, List, [], ◌∷◌, ◌++◌, ℕ, ◌+◌, ◌*◌, ◌/◌, ◌≤◌, length, Result}
use Rattle.scheme.specs.Switch.{Below, switched, switched_batch}
use Rattle.scheme.specs.Tally.{Switched}
use Rattle.scheme.specs.Checks.{Check, row, refusal, length_fails, batch_fails, words_fail, Writes}
use Rattle.primus_decompose.specs.Answers.{basis, rows}
use Rattle.key_switch_parameters.specs.declared.LweKeySwitchingParameters.{LweKeySwitchingParameters}
use Rattle.lwe_tag.specs.declared.LweTag.{LweTag}
use Rattle.check_order.specs.declared.refusal.Refusal.{Refusal}
use Rattle.lwe_tag.specs.Answers.{carried_of, tag_from, tag_fails, tags_fail, switched_tags, WritesTagged}
use Rattle.key_switch_parameters.specs.Answers.{q_in, n_in, m_in, key_words, parameter_rows}

-- what both judge, where 10 says `bad` of the input's length and 11 `wrong` of the output's
abbrev pub input_rows : LweKeySwitchingParameters → List ℕ → List ℕ → Bool → Bool → List Check
input_rows P key input bad wrong =
    parameter_rows P
    ++ row (length_fails (length key) (key_words P)) 9
    ∷ row bad 10
    ∷ row wrong 11
    ∷ row (words_fail (q_in P) key) 14
    ∷ row (words_fail (q_in P) input) 14
    ∷ []

-- one ciphertext with the tag g into `room` words: "10. A single ciphertext is not n + 1 words", "11. An output has the wrong length."
abbrev pub switch_rows : LweKeySwitchingParameters → List ℕ → List ℕ → LweTag → ℕ → List Check
switch_rows P key input g room =
    input_rows P key input (length_fails (length input) (n_in P + 1)) (length_fails room (m_in P + 1))
    ++ row (tag_fails g) 17 ∷ []

-- how many ciphertexts of n + 1 words stand in `len` words
abbrev pub count_in : LweKeySwitchingParameters → ℕ → ℕ
count_in P len = len / (n_in P + 1)

-- a batch with the tags gs into `room` words: "10. … a batch is not a multiple of it"; a tag for each ciphertext, or 12
abbrev pub batch_rows : LweKeySwitchingParameters → List ℕ → List ℕ → List LweTag → ℕ → List Check
batch_rows P key input gs room =
    input_rows P key input
    (batch_fails (length input) (n_in P)) (length_fails room (count_in P (length input) * (m_in P + 1)))
    ++ row (length_fails (length gs) (count_in P (length input))) 12
    ∷ row (tags_fail gs) 17
    ∷ []

-- "Output is (0, b) minus the sum of digit(i, j) × entry(i, j) modulo q"; c is "kept by a switch" (T-02)
pub record Switches (P : LweKeySwitchingParameters) (key input : List ℕ) (g : LweTag) (before : List ℕ)
    (given : Result LweTag Refusal) (after : List ℕ) : Type 0 where
  pub writes :
      WritesTagged (switch_rows P key input g (length before)) (tag_from (Switched (carried_of g)))
      (switched (basis P.basis) (n_in P) (m_in P) key input) before given after

-- "Input and output are runs of ciphertexts": row t of the output is the one switch of row t of the input. The tags become those of the
-- output, so that each row keeps its c
pub record SwitchesBatch (P : LweKeySwitchingParameters) (key input : List ℕ) (gs : List LweTag) (before : List ℕ)
    (r : ℕ) (tags : List LweTag) (after : List ℕ) : Type 0 where
  pub writes :
      Writes (batch_rows P key input gs (length before))
      (switched_batch (basis P.basis) (n_in P) (m_in P) key (count_in P (length input)) input) before r after
  pub keeps : Writes (batch_rows P key input gs (length before)) (switched_tags gs) gs r tags

-- what the checks leave, for `count` ciphertexts into `room` words
pub record Switchable (P : LweKeySwitchingParameters) (key input : List ℕ) (count room : ℕ) : Type 0 where
  pub accepted : refusal (rows P.basis) ≡ 0
  pub short : n_in P ≤ 2048
  pub narrow : m_in P ≤ 2048
  pub keyed : length key ≡ key_words P
  pub inputs : length input ≡ count * (n_in P + 1)
  pub fits : room ≡ count * (m_in P + 1)
  pub keys : Below (q_in P) key
  pub words : Below (q_in P) input
