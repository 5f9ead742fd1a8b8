-- The length of a whole file: a head of 64 bytes, words of four, tallies of eight and numbers c of four.
--     odd_length    bytes that fill a room of 4k + 1 are no whole file, so a room of one byte more than the largest file that is taken refuses longer ones
-- Assumes nothing.
use mathlib.Core.Path.{◌≡◌, ap}
use mathlib.Core.Bool.{Bool, true, false, not}
use mathlib.Core.List.{List}
use Prim.Native.Nat.{ℕ, ◌+◌, ◌*◌}
use native.Mathlib.Omega.{arith}
use lib.Dec.{eqb}
use lib.ListN.{length}
use borrow.Author.Tests.{ne_eqb}
use Rattle.scheme.specs.Numbers.{pick}
use Rattle.saved_head.specs.Head.{kind_of, words_of, count_of, beside_of, has_tallies, has_counts, file_fails}

differs : (len w c k : ℕ) (t n p : Bool) → len ≡ 4 * k + 1 → not (eqb len (64 + 4 * w + pick t (8 * c) 0 + pick n (pick p 4 (4 * c)) 0)) ≡ true
differs len w c k t n p e = ap not (ne_eqb len _ (λ z. odd t n p z))
  where
    odd : (t n p : Bool) → len ≡ 64 + 4 * w + pick t (8 * c) 0 + pick n (pick p 4 (4 * c)) 0 → ⊥
    odd true true true z = omega (arith, e)
    odd true true false z = omega (arith, e)
    odd true false p z = omega (arith, e)
    odd false true true z = omega (arith, e)
    odd false true false z = omega (arith, e)
    odd false false p z = omega (arith, e)

pub odd_length : (s : List ℕ) (k : ℕ) → length s ≡ 4 * k + 1 → file_fails s ≡ true
odd_length s k e =
    rw (differs (length s) (words_of s) (count_of s) k (has_tallies (beside_of s)) (has_counts (beside_of s)) (eqb (kind_of s) 6) e)
