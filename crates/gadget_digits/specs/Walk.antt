-- The Rust's walk: windows of the adjusted word, each with the carry from the window below it.
-- Theorem walk-digits says that it gives the digits.
use Rattle.std.specs.Prelude.{Bool, true, false, ℕ, zero, suc, ◌+◌, ◌-◌, ◌/◌, ◌%◌, ◌^◌, ltb, eqb}
use Rattle.scheme.specs.Numbers.{pick}
use Rattle.scheme.specs.Basis.{Basis, base, dropped}
use Rattle.scheme.specs.Reading.{threshold}

-- the adjusted word: a below T, else a + 2^k − q
unfoldable pub adjusted : Basis → ℕ → ℕ
adjusted b a = pick (ltb a (threshold b)) a (a + (2 ^ b.bits - b.modulus))

-- the carry into the lowest level: the highest dropped bit
unfoldable pub carry_in : ℕ → ℕ → ℕ
carry_in zero v = 0
carry_in (suc d) v = v / 2 ^ d % 2

-- a carry as a number
abbrev pub bit : Bool → ℕ
bit true = 1
bit false = 0

-- a window of `log` bits plus the carry: 0 to B
abbrev pub window : ℕ → ℕ → ℕ → ℕ
window log left carry = left % 2 ^ log + carry

-- the digit of a window in words of w bits, with q − B: the window below B/2; 0 where it is B; else q − B more
unfoldable pub window_digit : ℕ → ℕ → ℕ → ℕ → ℕ
window_digit w log offset v = pick (ltb v (2 ^ log / 2)) v (pick (eqb v (2 ^ log)) 0 (v + offset)) % 2 ^ w

-- the carry out of a window: whether it is B/2 or more
unfoldable pub window_carry : ℕ → ℕ → Bool
window_carry log v = pick (ltb v (2 ^ log / 2)) false true

-- what is left of the word and the carry, before level j
pub record Walk : Type 0 where
  pub left : ℕ
  pub carry : ℕ

abbrev pub walk_step : ℕ → Walk → Walk
walk_step log s = record { left = s.left / 2 ^ log; carry = bit (window_carry log (window log s.left s.carry)) }

unfoldable pub walk_at : ℕ → Walk → ℕ → Walk
walk_at log s zero = s
walk_at log s (suc j) = walk_step log (walk_at log s j)

-- the walk of the word a begins above the dropped bits
unfoldable pub walk_from : Basis → ℕ → Walk
walk_from b a = record { left = adjusted b a / 2 ^ dropped b; carry = carry_in (dropped b) (adjusted b a) }

-- digit j of the walk
unfoldable pub walk_digit : ℕ → Basis → ℕ → ℕ → ℕ
walk_digit w b a j =
    window_digit w b.base_log (b.modulus - base b)
    (window b.base_log (walk_at b.base_log (walk_from b a) j).left (walk_at b.base_log (walk_from b a) j).carry)
