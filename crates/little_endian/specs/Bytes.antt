-- A number of four or eight bytes: the lowest byte comes first.
use Rattle.std.specs.Prelude.{List, ℕ, ◌+◌, ◌*◌, ◌^◌, get_or}

unfoldable pub word32 : List ℕ → ℕ → ℕ
word32 s i = get_or s i 0 + 256 * get_or s (i + 1) 0 + 65536 * get_or s (i + 2) 0 + 16777216 * get_or s (i + 3) 0

unfoldable pub word64 : List ℕ → ℕ → ℕ
word64 s i = word32 s i + 2 ^ 32 * word32 s (i + 4)
