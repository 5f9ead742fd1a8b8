-- What checks 1 to 3 and 5 leave.
-- Assumes nothing.
use Rattle.std.proofs.Common.{◌≡◌, ℕ}
use Rattle.scheme.specs.Modulus.{Fits}
use Rattle.scheme.specs.Checks.{refusal, basis_rows}
use Rattle.scheme.proofs.Checks.{Sound, sound}
use Rattle.scheme.proofs.Order.{passed}
use Rattle.primus_reduce.specs.Ring.{meant}
use Rattle.primus_reduce.specs.declared.modulus.Modulus.{Modulus}

pub sound-basis : (m : Modulus) (b L : ℕ) → Fits 32 (meant m) → refusal (basis_rows 32 (meant m) b L) ≡ 0 → Sound 32 (meant m) b L
sound-basis m b L f e =
    let no = passed (basis_rows 32 (meant m) b L) e in
    sound 32 (meant m) b L f (no 1 tt) (no 2 tt) (no 3 tt) (no 5 tt)
