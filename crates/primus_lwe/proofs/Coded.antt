-- A phase is a word.
-- Assumes nothing.
use mathlib.Core.Path.{◌≡◌}
use mathlib.Core.List.{List}
use Prim.Native.Nat.{ℕ, ◌<◌}
use lib.IntN.{ℤ, pos, ◌-ℤ◌}
use lib.ListN.{get_or}
use Rattle.scheme.specs.Lwe.{inner, phase_of}
use Rattle.scheme.proofs.Residue.{residue_lt}

pub phase-below : (q n : ℕ) (x : List ℕ) (s : ℕ → ℤ) (p : ℕ) → 0 < q → p ≡ phase_of q n x s → p < q
unfolding phase_of
phase-below q n x s p h e = rw e (residue_lt (pos (get_or x n 0) -ℤ inner n x s) q h)
