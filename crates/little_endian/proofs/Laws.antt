-- Bytes with zeros after them, and numbers of four and eight bytes.
-- Assumes nothing.
use Prim.Native.Nat.{min}
use Rattle.std.proofs.Math.ListN.{replicate}
use Rattle.std.proofs.Common.{◌≡◌, ◌<◌, ℕ, ◌+◌, List, ◌++◌, get_or, length, take, drop, arith}
use Rattle.std.proofs.lemmas.Grind.{common_steps}
use Rattle.std.specs.Int.{w32, w64, from_le_bytes}
use Rattle.little_endian.specs.Bytes.{word32, word64}

pub padded : (rest : List ℕ) (N n k : ℕ) → n ≡ min (length rest) N → k < N → get_or (take n rest ++ drop n (replicate N 0)) k 0 ≡ get_or rest k 0
padded rest N n k e h = grind (arith, common_steps)

-- the first bytes from i on
pub whole : (s rest : List ℕ) (i N k : ℕ) → rest ≡ drop i s → k < N → get_or (take N rest) k 0 ≡ get_or s (i + k) 0
whole s rest i N k e h = grind (arith, common_steps)

pub from_there : (s rest : List ℕ) (i k : ℕ) → rest ≡ drop i s → get_or rest k 0 ≡ get_or s (i + k) 0
from_there s rest i k e = grind (arith, common_steps)

pub is_word32 : (bytes s : List ℕ) (i : ℕ) → ((k : ℕ) → k < 4 → get_or bytes k 0 ≡ get_or s (i + k) 0) → from_le_bytes w32 bytes ≡ word32 s i
unfolding word32
is_word32 bytes s i h = grind (arith, common_steps, h 0, h 1, h 2, h 3)

pub is_word64 : (bytes s : List ℕ) (i : ℕ) → ((k : ℕ) → k < 8 → get_or bytes k 0 ≡ get_or s (i + k) 0) → from_le_bytes w64 bytes ≡ word64 s i
unfolding word32 word64
is_word64 bytes s i h = grind (arith, common_steps, h 0, h 1, h 2, h 3, h 4, h 5, h 6, h 7)
