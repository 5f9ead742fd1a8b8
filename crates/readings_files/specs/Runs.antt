-- A run over reads: which there are, where they end, and what there is to print.
use Rattle.std.specs.Prelude.{◌≡◌, Bool, true, false, List, [], ◌∷◌, ◌++◌, ℕ, ◌+◌, ◌-◌, ◌^◌, ◌≤◌, ◌<◌, length, take, get_or}
use Rattle.readings_core.specs.declared.command.Turn.{Turn}
use Rattle.readings_reader.specs.declared.reader.Reader.{Reader}
use Rattle.readings_reader.specs.Run.{Line, due, start, finished}
use Rattle.readings_steps.specs.declared.step.Step.{Step}
use Rattle.readings_steps.specs.Steps.{fed_all, step_of, ended}

-- s is what one read leaves, of some bytes: no contract can say which
pub record Stepped (m : Reader) (s : Step) : Type 0 where
  pub bytes : List ℕ
  pub fits : length bytes ≤ 64
  pub so : s ≡ step_of m bytes

unfoldable pub joined : List (List ℕ) → List ℕ
joined [] = []
joined (xs ∷ rs) = xs ++ joined rs

-- read i ends the run
abbrev pub ended_at : List (List ℕ) → ℕ → Bool
ended_at rs i = ended (step_of (fed_all start (joined (take i rs))) (get_or rs i []))

-- t is the last answer of a run over some reads: none ends the run before the last, which does, unless it is read number 2^64 − 1
pub record Ran (t : Turn) : Type 0 where
  pub reads : List (List ℕ)
  pub some : 1 ≤ length reads
  pub most : length reads ≤ 2 ^ 64 - 1
  pub fits : (i : ℕ) → i < length reads → length (get_or reads i []) ≤ 64
  pub goes_on : (i : ℕ) → i + 1 < length reads → ended_at reads i ≡ false
  pub stops : length reads < 2 ^ 64 - 1 → ended_at reads (length reads - 1) ≡ true
  pub last : t ≡ finished (fed_all start (joined reads))

-- ---- what there is to print

unfoldable pub dues : List Turn → List Line
dues [] = []
dues (t ∷ ts) = due t ++ dues ts

-- the lines of each step's first `count` turns
unfoldable pub handed : Reader → List (List ℕ) → List Line
handed m [] = []
handed m (xs ∷ rs) = dues (take (step_of m xs).count (step_of m xs).turns) ++ handed (step_of m xs).reader rs
