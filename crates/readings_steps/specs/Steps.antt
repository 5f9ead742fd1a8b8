-- What the bytes of one read leave.
use Rattle.std.specs.Prelude.{Bool, true, not, List, [], ◌∷◌, ℕ, zero, suc, eqb, length}
use Rattle.scheme.specs.Numbers.{pick}
use Rattle.readings_core.specs.declared.command.Turn.{Turn}
use Rattle.readings_reader.specs.declared.reader.Reader.{Reader}
use Rattle.readings_reader.specs.Run.{fed}
use Rattle.readings_steps.specs.declared.step.Step.{Step}

-- the reader after the bytes
unfoldable pub fed_all : Reader → List ℕ → Reader
fed_all m [] = m
fed_all m (x ∷ xs) = fed_all (fed m x) xs

-- the turn after each byte
unfoldable pub turns_fed : Reader → List ℕ → List Turn
turns_fed m [] = []
turns_fed m (x ∷ xs) = (fed m x).turn ∷ turns_fed (fed m x) xs

-- n places: the turns ts, and t where they leave any
unfoldable pub places : ℕ → Turn → List Turn → List Turn
places zero t ts = []
places (suc n) t [] = t ∷ places n t []
places (suc n) t (u ∷ ts) = u ∷ places n t ts

-- the turn after byte i stands at place i, for the first 64 bytes; how many bytes there were
abbrev pub step_of : Reader → List ℕ → Step
step_of m xs =
    record {
      reader = fed_all m xs;
      turns = places 64 m.turn (turns_fed m xs);
      count = length xs;
    }

-- the input has ended where a read gives no byte; "After 19 it ends."
abbrev pub ended : Step → Bool
ended s = pick (eqb s.count 0) true (not s.reader.turn.more)
