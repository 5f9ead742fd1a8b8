-- The test of a base log against a modulus.
-- Assumes nothing.
use Rattle.std.proofs.Common.{◌≡◌, ℕ, ◌*◌, ◌%◌, ◌^◌, ◌<◌, nat_lt, min, ap, ◌∙◌, arith, pow_mono, lt-ltb}
use Rattle.std.proofs.Math.Decide.{dec_lt}
use Rattle.primus_reduce.proofs.Laws.{one_shl}

-- B, or 2^32 in place of a larger one
pub below_test : (q log : ℕ) → q < 2 ^ 32 → nat_lt q ((1 * 2 ^ min log 32) % 2 ^ 64) ≡ nat_lt q (2 ^ log)
below_test q log h = ap (nat_lt q) (one_shl 64 (min log 32) (omega arith)) ∙ go (dec_lt log 32)
  where
    go : Dec (log < 32) → nat_lt q (2 ^ min log 32) ≡ nat_lt q (2 ^ log)
    go (yes l) = ap (λ n. nat_lt q (2 ^ n)) (omega arith)
    go (no l) = rw (lt-ltb q (2 ^ min log 32) (omega (arith, pow_mono {i = 32} {j = min log 32} (omega arith)))) (rw (lt-ltb q (2 ^ log) (omega (arith, pow_mono {i = 32} {j = log} (omega arith)))))
