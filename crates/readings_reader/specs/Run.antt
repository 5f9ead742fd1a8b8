-- A whole run of the program: its commands one after the other, and the same byte by byte.
use Rattle.std.specs.Prelude.{true, false, List, [], ◌∷◌, ◌++◌, ℕ, zero, suc, ◌+◌, leb, ltb, length, take, drop, set, Option, Some, None, Result, Ok, Err}
use Rattle.scheme.specs.Numbers.{pick}
use Rattle.readings_core.specs.Program.{Session, over, silent}
use Rattle.readings_commands.specs.Commands.{command_of, operands, turn_of, byte_operands, byte_turn}
use Rattle.check_order.specs.declared.refusal.Refusal.{Refusal}
use Rattle.readings_core.specs.declared.command.Reply.{Reply}
use Rattle.readings_core.specs.declared.command.Turn.{Turn}
use Rattle.readings_commands.specs.declared.Command.{Command}
use Rattle.readings_reader.specs.declared.reader.Reader.{Reader}

-- a line of output: an answer
abbrev pub Line : Type 0
Line = Result Reply Refusal

-- the line of an answer, where there is one
abbrev pub said : Option Line → List Line
said None = []
said (Some r) = r ∷ []

abbrev pub due : Turn → List Line
due t = said t.reply

-- "Standard input holds commands of one byte", each with the operand bytes that it takes, or that are left;
-- the run ends with the input, or after 19. n bounds the number of commands.
unfoldable pub lines_within : ℕ → Session → List ℕ → List Line
lines_within zero s xs = []
lines_within (suc n) s [] = []
lines_within (suc n) s (c ∷ xs) =
    due (byte_turn s c (take (byte_operands c) xs))
    ++ pick (byte_turn s c (take (byte_operands c) xs)).more
    (lines_within n (byte_turn s c (take (byte_operands c) xs)).session (drop (byte_operands c) xs))
    []

-- the lines of a whole input: it has no more commands than bytes
abbrev pub lines_of : List ℕ → List Line
lines_of xs = lines_within (length xs) None xs

-- ---- byte by byte

-- no command has begun; the places of the operand bytes hold xs
abbrev pub idle : Turn → List ℕ → Reader
idle t xs = record { turn = t; command = None; held = xs; count = 0 }

-- before the first byte
abbrev pub start : Reader
start = idle (silent None true) (0 ∷ 0 ∷ 0 ∷ 0 ∷ 0 ∷ 0 ∷ [])

-- the operand bytes with one more, of at most six
abbrev pub put : List ℕ → ℕ → ℕ → List ℕ
put xs n x = pick (ltb n 6) (set xs n x) xs

abbrev pub one_more : ℕ → ℕ
one_more n = pick (ltb n 6) (n + 1) 6

-- the command c with n operand bytes: answered where it takes no more
abbrev pub settled_by : Session → Command → List ℕ → ℕ → Reader
settled_by s c xs n =
    pick (leb (operands c) n)
    (idle (turn_of s c (take n xs)) xs)
    (record { turn = silent s true; command = Some c; held = xs; count = n })

-- a command begins; what is none gets 19
abbrev pub begun_by : Session → List ℕ → Result Command Refusal → Reader
begun_by s xs (Ok c) = settled_by s c xs 0
begun_by s xs (Err e) = idle (over s) xs

-- the operand of a command that has begun, or the next command
abbrev pub taken : Reader → ℕ → Option Command → Reader
taken m x (Some c) = settled_by m.turn.session c (put m.held m.count x) (one_more m.count)
taken m x None = begun_by m.turn.session m.held (command_of x)

-- one byte more
unfoldable pub fed : Reader → ℕ → Reader
fed m x = pick m.turn.more (taken m x m.command) (idle (silent m.turn.session false) m.held)

-- a command that has begun is cut off by the end of the input
abbrev pub cut_off : Session → Option Command → Turn
cut_off s (Some c) = over s
cut_off s None = silent s false

-- the end of the input
unfoldable pub finished : Reader → Turn
finished m = cut_off m.turn.session m.command

-- the lines that fall due as the bytes xs are fed, and at their end
unfoldable pub lines_fed : Reader → List ℕ → List Line
lines_fed m [] = due (finished m)
lines_fed m (x ∷ xs) = due (fed m x).turn ++ lines_fed (fed m x) xs
