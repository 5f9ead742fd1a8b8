use Rattle.std.proofs.Common.{◌≡◌, ◌<◌, ◌≤◌, ℕ, length, ◌+ℤ◌, get_or}
use Rattle.scheme.specs.Numbers.{residue}
use Rattle.scheme.specs.Lwe.{words, rotated}
use Rattle.primus_reduce.specs.Ring.{size_of}
use Rattle.lwe_errors.specs.Errors.{errors_in}
use Rattle.lwe_packing.proofs.packed.write_plaintexts.Given as goal

abbrev pub invariant-loop-i : goal.invariant-loop-i
invariant-loop-i l =
    record {
      written : (k : ℕ) → k < l.i → get_or l.bodies k 0 ≡ residue (rotated (length l.mask) l.mask (words l.secret) k +ℤ errors_in l.fn.ring.modulus l.fn.errors k +ℤ words l.plaintexts k) (size_of l.fn.ring.modulus);
      lent : (k : ℕ) → l.i ≤ k → get_or l.bodies k 0 ≡ get_or l.initial.bodies k 0;
    }
