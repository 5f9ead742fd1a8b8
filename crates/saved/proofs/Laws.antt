-- Words past the end, words as signed numbers, and a buffer that is filled word by word.
-- Assumes nothing.
use Prim.Native.Nat.{min}
use Rattle.std.proofs.Common.{◌≡◌, ◌+◌, ◌*◌, ◌-◌, ◌^◌, ◌≤◌, ◌<◌, ℕ, List, length, arith}
use Rattle.std.proofs.Math.ListN.{get_or-eq_default}
use Rattle.std.proofs.lemmas.Grind.{common_steps}
use Rattle.std.specs.Int.{w32, cast_signed}
use Rattle.little_endian.specs.Bytes.{word32, word64}
use Rattle.saved.specs.Layout.{signed_word}

past32 : (s : List ℕ) (i : ℕ) → length s ≤ i → word32 s i ≡ 0
unfolding word32
past32 s i h = grind (arith, common_steps, get_or-eq_default s 0 {n = i})

past64 : (s : List ℕ) (i : ℕ) → length s ≤ i → word64 s i ≡ 0
unfolding word64
past64 s i h = grind (arith, past32 s i h, past32 s (i + 4))

-- the place of item i, of four or eight bytes, as the code computes it
pub four_capped : (s : List ℕ) (base i : ℕ) → length s < 2 ^ 63 → word32 s (min (min (i * 4) (2 ^ 64 - 1) + base) (2 ^ 64 - 1)) ≡ word32 s (base + 4 * i)
four_capped s base i h =
    let past = past32 s (min (min (i * 4) (2 ^ 64 - 1) + base) (2 ^ 64 - 1)) in
    grind (arith, common_steps, past, past32 s (base + 4 * i))

pub eight_capped : (s : List ℕ) (base i : ℕ) → length s < 2 ^ 63 → word64 s (min (min (i * 8) (2 ^ 64 - 1) + base) (2 ^ 64 - 1)) ≡ word64 s (base + 8 * i)
eight_capped s base i h =
    let past = past64 s (min (min (i * 8) (2 ^ 64 - 1) + base) (2 ^ 64 - 1)) in
    grind (arith, common_steps, past, past64 s (base + 8 * i))

pub same_bits : (w : ℕ) → w < 2 ^ 32 → cast_signed w32 w ≡ signed_word w
same_bits w h = grind (arith, common_steps)
