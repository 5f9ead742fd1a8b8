-- Byte by byte, the reader says the lines of the whole input.
-- Assumes nothing.
use mathlib.Core.Path.{◌≡◌, refl, sym, ap, ◌∙◌}
use mathlib.Core.Bool.{Bool, true, false}
use mathlib.Core.List.{List, [], ◌∷◌, ◌++◌, append-nil, append_assoc}
use Prim.Native.Nat.{ℕ, zero, suc, ◌+◌, ◌-◌, ◌≤◌, ◌<◌}
use native.Mathlib.Numerals.{add-one}
use native.Mathlib.Decide.{ℕ_discrete}
use native.Mathlib.Omega.{arith}
use lib.ListN.{length, take, drop, set, length-append, length-set}
use lib.Seq.{take_all, take-suc-set}
use borrow.Author.Tests.{le-leb, lt-leb, lt-ltb}
use Rattle.scheme.specs.Numbers.{pick}
use Rattle.readings_commands.specs.Commands.{command_of, operands, turn_of, operands_by, turn_by}
use Rattle.readings_reader.specs.Run.{Line, due, lines_within, lines_of, idle, start, settled_by, begun_by, fed, finished, lines_fed}
use Rattle.std.proofs.Common.{Some, None, Result, Ok, Err}
use Rattle.readings_core.specs.Program.{Session, over, silent}
use Rattle.readings_core.specs.declared.command.Turn.{Turn}
use Rattle.check_order.specs.declared.refusal.Refusal.{Refusal}
use Rattle.readings_commands.specs.declared.Command.{Command}
use Rattle.readings_commands.specs.declared.Command.TheVariants.{Basis, Word}
use Rattle.readings_reader.specs.declared.reader.Reader.{Reader}

-- a command takes at most six operand bytes
few : (c : Command) → operands c ≤ 6
few Basis = omega arith
few Word = omega arith

-- and at least one
some : (c : Command) → 0 < operands c
some Basis = omega arith
some Word = omega arith

-- a command whose operands are cut off gets 19
cut : (s : Session) (c : Command) (xs : List ℕ) → length xs < operands c → turn_of s c xs ≡ over s
cut s Basis xs h = rw (lt-leb 6 (length xs) h) refl
cut s Word xs h = rw (lt-leb 4 (length xs) h) refl

-- after 19 there are no lines
pub ended : (m : Reader) → m.turn.more ≡ false → m.command ≡ None → (xs : List ℕ) → lines_fed m xs ≡ []
unfolding lines_fed finished fed
ended m e b xs = go xs m e b
  where
    go : (xs : List ℕ) (m : Reader) → m.turn.more ≡ false → m.command ≡ None → lines_fed m xs ≡ []
    go [] m e b = rw b refl
    go (x ∷ xs) m e b = rw e (go xs _ refl refl)

-- a reader that waits for a command, in the session s
pub record Waits (s : Session) (m : Reader) : Type 0 where
  pub in_session : m.turn.session ≡ s
  pub goes_on : m.turn.more ≡ true
  pub none_begun : m.command ≡ None
  pub room : length m.held ≡ 6

-- a reader that has the command c and the operand bytes zs, fewer than it takes
pub record Gathers (s : Session) (c : Command) (zs : List ℕ) (m : Reader) : Type 0 where
  pub in_session : m.turn.session ≡ s
  pub goes_on : m.turn.more ≡ true
  pub the_command : m.command ≡ Some c
  pub room : length m.held ≡ 6
  pub counted : m.count ≡ length zs
  pub holds : take (length zs) m.held ≡ zs
  pub short : length zs < operands c

-- such a reader
abbrev begins : Session → Command → List ℕ → ℕ → Reader
begins s c hs k = record { turn = silent s true; command = Some c; held = hs; count = k }

begins-so : (s : Session) (c : Command) (hs : List ℕ) (k : ℕ) → k < operands c → settled_by s c hs k ≡ begins s c hs k
begins-so s c hs k h = rw (lt-leb (operands c) k h) refl

-- ---- one byte

module _ {s : Session} {c : Command} {zs : List ℕ} {m : Reader} (g : Gathers s c zs m) where
  fed_gathers : (y : ℕ) → fed m y ≡ settled_by s c (set m.held (length zs) y) (length zs + 1)
  unfolding fed
  fed_gathers y =
      rw (g.goes_on, g.the_command, g.in_session, g.counted, lt-ltb (length zs) 6 (omega (arith, g.short, few c))) refl

  -- the operand bytes with y
  held_more : (y : ℕ) → take (length zs + 1) (set m.held (length zs) y) ≡ zs ++ y ∷ []
  held_more y =
      ap (λ n. take n (set m.held (length zs) y)) (add-one (length zs))
      ∙ take-suc-set m.held (length zs) y (omega (arith, g.room, g.short, few c))
      ∙ ap (λ (xs : List ℕ). xs ++ y ∷ []) g.holds

-- the end of the input, in the midst of a command
cut_short : {s : Session} {c : Command} {zs : List ℕ} {m : Reader} → Gathers s c zs m → lines_fed m [] ≡ due (over s)
unfolding lines_fed finished
cut_short g = rw g.the_command refl

fed_waits : {s : Session} {m : Reader} → Waits s m → (c : ℕ) → fed m c ≡ begun_by s m.held (command_of c)
unfolding fed
fed_waits w c = rw (w.goes_on, w.none_begun, w.in_session) refl

-- ---- the lines from a byte on

abbrev from : Reader → List ℕ → List Line
from r ys = due r.turn ++ lines_fed r ys

lines_next : (m : Reader) (y : ℕ) (ys : List ℕ) → lines_fed m (y ∷ ys) ≡ from (fed m y) ys
unfolding lines_fed
lines_next m y ys = refl

-- the lines of a command that is whole, and of what comes after it
abbrev lines : ℕ → Turn → List ℕ → List Line
lines n t xs = due t ++ pick t.more (lines_within n t.session xs) []

-- what is to be shown, for inputs of at most n bytes
abbrev Known : ℕ → Type 0
Known n = (s : Session) (m : Reader) → Waits s m → (xs : List ℕ) → length xs ≤ n → lines_fed m xs ≡ lines_within n s xs

module _ (n : ℕ) (known : Known n) where
  after-whole : (s : Session) (c : Command) (hs : List ℕ) (k : ℕ) (ys : List ℕ) → length hs ≡ 6 → operands c ≤ k → length ys ≤ n
      → from (settled_by s c hs k) ys ≡ lines n (turn_of s c (take k hs)) ys
  after-whole s c hs k ys r h l = ap (λ m. from m ys) whole ∙ ap (λ (xs : List Line). due (turn_of s c (take k hs)) ++ xs) (go (turn_of s c (take k hs)).more refl)
    where
      there : Reader
      there = idle (turn_of s c (take k hs)) hs

      whole : settled_by s c hs k ≡ there
      whole = rw (le-leb (operands c) k h) refl

      go : (b : Bool) → (turn_of s c (take k hs)).more ≡ b → lines_fed there ys ≡ pick b (lines_within n (turn_of s c (take k hs)).session ys) []
      go true e = known _ there (record { in_session = refl; goes_on = e; none_begun = refl; room = r }) ys l
      go false e = ended there e refl ys

  gather : (ys zs : List ℕ) {s : Session} {c : Command} {m : Reader} → Gathers s c zs m → length ys ≤ n
      → lines_fed m ys ≡ lines n (turn_of s c (zs ++ take (operands c - length zs) ys)) (drop (operands c - length zs) ys)
  gather [] zs {s} {c} {m} g l = cut_short g ∙ sym (ap (λ t. lines n t (drop (operands c - length zs) [])) (ap (turn_of s c) none ∙ cut s c zs g.short))
    where
      none : zs ++ take (operands c - length zs) [] ≡ zs
      none = ap (λ (xs : List ℕ). zs ++ xs) (take_all (operands c - length zs) [] (omega arith)) ∙ append-nil zs
  gather (y ∷ ys) zs {s} {c} {m} g l =
      lines_next m y ys ∙ ap (λ r. from r ys) (fed_gathers g y)
      ∙ go (λ m h. gather ys (zs ++ y ∷ []) {m = m} h (omega arith)) (ℕ_discrete (operands c) (length zs + 1))
    where
      hs : List ℕ
      hs = set m.held (length zs) y

      room-left : length hs ≡ 6
      room-left = length-set m.held (length zs) y ∙ g.room

      go : ((m : Reader) → Gathers s c (zs ++ y ∷ []) m
          → lines_fed m ys
          ≡ lines n (turn_of s c (zs ++ y ∷ [] ++ take (operands c - length (zs ++ y ∷ [])) ys)) (drop (operands c - length (zs ++ y ∷ [])) ys))
          → Dec (operands c ≡ length zs + 1)
          → from (settled_by s c hs (length zs + 1)) ys
          ≡ lines n (turn_of s c (zs ++ take (operands c - length zs) (y ∷ ys))) (drop (operands c - length zs) (y ∷ ys))
      go later (yes p) =
          let one : 1 ≡ operands c - length zs = omega arith in
          after-whole s c hs (length zs + 1) ys room-left (omega arith) (omega arith)
          ∙ ap (λ t. lines n t ys) (ap (turn_of s c) (held_more g y))
          ∙ ap (λ k. lines n (turn_of s c (zs ++ take k (y ∷ ys))) (drop k (y ∷ ys))) one
      go later (no p) =
          let longer : length (zs ++ y ∷ []) ≡ length zs + 1 = length-append zs (y ∷ []) in
          let k : ℕ = operands c - length (zs ++ y ∷ []) in
          let less : suc k ≡ operands c - length zs = omega (arith, longer, g.short) in
          ap (λ r. from r ys) (begins-so s c hs (length zs + 1) (omega (arith, g.short)))
          ∙ later (begins s c hs (length zs + 1))
          (record {
            in_session = refl;
            goes_on = refl;
            the_command = refl;
            room = room-left;
            counted = sym longer;
            holds = ap (λ j. take j hs) longer ∙ held_more g y;
            short = omega (arith, longer, g.short);
          })
          ∙ ap (λ xs. lines n (turn_of s c xs) (drop k ys)) (append_assoc zs (y ∷ []) (take k ys))
          ∙ ap (λ j. lines n (turn_of s c (zs ++ take j (y ∷ ys))) (drop j (y ∷ ys))) less

-- the end of the input, with no command begun
none_left : {s : Session} {m : Reader} → Waits s m → lines_fed m [] ≡ []
unfolding lines_fed finished
none_left w = rw w.none_begun refl

next : (n : ℕ) → Known n → Known (suc n)
unfolding lines_within
next n known s m w [] l = none_left w
next n known s m w (x ∷ xs) l = lines_next m x xs ∙ ap (λ r. from r xs) (fed_waits w x) ∙ go (command_of x)
  where
    go : (r : Result Command Refusal) → from (begun_by s m.held r) xs ≡ lines n (turn_by s r (take (operands_by r) xs)) (drop (operands_by r) xs)
    go (Err e) = ap (λ (ls : List Line). due (over s) ++ ls) (ended _ refl refl xs)
    go (Ok c) =
        let all : operands c - 0 ≡ operands c = omega arith in
        ap (λ r. from r xs) (begins-so s c m.held 0 (some c))
        ∙ gather n known xs [] {s = s} {c = c} {m = begins s c m.held 0}
        (record {
          in_session = refl;
          goes_on = refl;
          the_command = refl;
          room = w.room;
          counted = refl;
          holds = refl;
          short = some c;
        }) (omega arith)
        ∙ ap (λ k. lines n (turn_of s c (take k xs)) (drop k xs)) all

all : (n : ℕ) → Known n
unfolding lines_within
all zero s m w [] l = none_left w
all zero s m w (x ∷ xs) l = absurd (omega arith)
all (suc n) s m w xs l = next n (all n) s m w xs l

-- fed byte by byte, from the first byte to the end of the input, the reader says the lines of the input's commands
pub whole_run : (xs : List ℕ) → lines_fed start xs ≡ lines_of xs
whole_run xs = all (length xs) None start (record { in_session = refl; goes_on = refl; none_begun = refl; room = refl }) xs (omega arith)
