-- "How busy a switch will be" (T-13): how many words below q have just j digits that are not zero.
use Rattle.std.specs.Prelude.{Bool, true, false, not, List, ℕ, zero, suc, ◌+◌, ◌*◌, ◌-◌, ◌^◌, eqb, ℤ, pos, negsuc}
use Rattle.scheme.specs.Numbers.{sum_ℕ, tabulate}
use Rattle.scheme.specs.Basis.{Basis, base, dropped}
use Rattle.scheme.specs.Digits.{digit}

-- 1 where it holds, else 0
abbrev pub one_if : Bool → ℕ
one_if true = 1
one_if false = 0

-- whether a digit is not zero
abbrev pub not_zero : ℤ → Bool
not_zero (pos n) = not (eqb n 0)
not_zero (negsuc n) = true

-- how many of the L digits of the word a are not zero
unfoldable pub nonzero : Basis → ℕ → ℕ
nonzero b a = sum_ℕ b.levels (λ j. one_if (not_zero (digit b a j)))

-- how many of the words below n have just j such digits
unfoldable pub count_below : Basis → ℕ → ℕ → ℕ
count_below b n j = sum_ℕ n (λ a. one_if (eqb (nonzero b a) j))

-- "how many words below q have just 0, 1, … L digits that are not zero"
abbrev pub count_of : Basis → ℕ → ℕ
count_of b j = count_below b b.modulus j

-- "L + 1 counts"
abbrev pub counts_of : Basis → List ℕ
counts_of b = tabulate (b.levels + 1) (count_of b)

-- C(n, j)
unfoldable pub choose : ℕ → ℕ → ℕ
choose n zero = 1
choose zero (suc j) = 0
choose (suc n) (suc j) = choose n j + choose n (suc j)

-- the count of a power of two, in closed form: 2^d × C(L, j) × (B − 1)^j
unfoldable pub closed : Basis → ℕ → ℕ
closed b j = 2 ^ dropped b * (choose b.levels j * (base b - 1) ^ j)
