-- "The program `readings`": its commands, the operands that each takes, and 19.
use Rattle.std.specs.Prelude.{List, ℕ, Result, Ok, Err, leb, eqb, length, get_or}
use Rattle.scheme.specs.Numbers.{pick}
use Rattle.little_endian.specs.Bytes.{word32}
use Rattle.primus_reduce.specs.Ring.{modulus_for}
use Rattle.primus_decompose.specs.Answers as A
use Rattle.check_order.specs.declared.refusal.Refusal.{Refusal}
use Rattle.check_order.specs.declared.refusal.Refusal.TheVariants.{Unreadable}
use Rattle.readings_core.specs.Program.{Session, over, basis_turn, word_turn}
use Rattle.readings_core.specs.declared.command.Turn.{Turn}
use Rattle.readings_commands.specs.declared.Command.{Command}
use Rattle.readings_commands.specs.declared.Command.TheVariants.{Basis, Word}

-- "01: modulus (4 bytes), base log (1), levels (1). 02: word (4)."; another byte is no command, and gets 19
abbrev pub command_of : ℕ → Result Command Refusal
command_of c = pick (eqb c 1) (Ok Basis) (pick (eqb c 2) (Ok Word) (Err Unreadable))

abbrev pub operands : Command → ℕ
operands Basis = 6
operands Word = 4

abbrev pub basis_command : Session → List ℕ → Turn
basis_command s xs =
    pick (leb 6 (length xs))
    (basis_turn s (A.basis_with (modulus_for (word32 xs 0)) (get_or xs 4 0) (get_or xs 5 0)))
    (over s)

abbrev pub word_command : Session → List ℕ → Turn
word_command s xs = pick (leb 4 (length xs)) (word_turn s (word32 xs 0)) (over s)

abbrev pub turn_of : Session → Command → List ℕ → Turn
turn_of s Basis xs = basis_command s xs
turn_of s Word xs = word_command s xs

-- the operand bytes of a command; what is no command has none
abbrev pub operands_by : Result Command Refusal → ℕ
operands_by (Ok c) = operands c
operands_by (Err e) = 0

-- the turn of a command; what is none gets 19
abbrev pub turn_by : Session → Result Command Refusal → List ℕ → Turn
turn_by s (Ok c) xs = turn_of s c xs
turn_by s (Err e) xs = over s

-- the same of the byte that asks for it
abbrev pub byte_operands : ℕ → ℕ
byte_operands c = operands_by (command_of c)

abbrev pub byte_turn : Session → ℕ → List ℕ → Turn
byte_turn s c xs = turn_by s (command_of c) xs
