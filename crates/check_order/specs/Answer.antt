-- What a call answers: its result, or the first refusal that applies. C, files and programs give refusals by number, and 0 where there is none.
use Rattle.std.specs.Prelude.{List, ℕ, Result, Ok, Err, ◌==◌}
use Rattle.scheme.specs.Numbers.{pick}
use Rattle.scheme.specs.Checks.{Check, refusal}
use Rattle.check_order.specs.declared.refusal.Refusal.{Refusal}
use Rattle.check_order.specs.declared.refusal.Refusal.TheVariants as R

-- the number of a refusal
unfoldable pub number_of : Refusal → ℕ
number_of R.BaseLog = 1
number_of R.Modulus = 2
number_of R.Base = 3
number_of R.Levels = 5
number_of R.LargeModulus = 26
number_of R.Dimension = 6
number_of R.PlaintextModulus = 7
number_of R.SmallModulus = 8
number_of R.KeyLength = 9
number_of R.InputLength = 10
number_of R.OutputLength = 11
number_of R.LentLength = 12
number_of R.ErrorLimit = 13
number_of R.Word = 14
number_of R.Error = 15
number_of R.Message = 16
number_of R.Tally = 17
number_of R.NoBasis = 18
number_of R.Unreadable = 19

-- the refusal of a number that has one
unfoldable pub refusal_for : ℕ → Refusal
refusal_for n =
    pick (n == 1) R.BaseLog
    (pick (n == 2) R.Modulus
    (pick (n == 3) R.Base
    (pick (n == 5) R.Levels
    (pick (n == 26) R.LargeModulus
    (pick (n == 6) R.Dimension
    (pick (n == 7) R.PlaintextModulus
    (pick (n == 8) R.SmallModulus
    (pick (n == 9) R.KeyLength
    (pick (n == 10) R.InputLength
    (pick (n == 11) R.OutputLength
    (pick (n == 12) R.LentLength
    (pick (n == 13) R.ErrorLimit
    (pick (n == 14) R.Word
    (pick (n == 15) R.Error
    (pick (n == 16) R.Message
    (pick (n == 17) R.Tally
    (pick (n == 18) R.NoBasis R.Unreadable)))))))))))))))))

-- the number that an answer gives: that of its refusal, or 0
abbrev pub code_of : {A : Type 0} → Result A Refusal → ℕ
code_of (Ok x) = 0
code_of (Err e) = number_of e

-- a call with these rows answers x, or the first refusal that applies
unfoldable pub answer : {A : Type 0} → List Check → A → Result A Refusal
answer rows x = pick (refusal rows == 0) (Ok x) (Err (refusal_for (refusal rows)))
