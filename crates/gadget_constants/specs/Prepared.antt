-- The constants of an accepted basis as the code holds them.
use Rattle.std.specs.Prelude.{◌≡◌, ℕ, ◌+◌, ◌-◌, ◌*◌, ◌/◌, ◌%◌, ◌^◌, ◌<◌, ◌≤◌, max, nat_lt}
use Rattle.scheme.specs.Numbers.{pick}
use Rattle.scheme.specs.Basis.{Basis, basis_of, base, dropped, bound_of}
use Rattle.scheme.specs.Reading.{threshold}
use Rattle.scheme.proofs.Checks.{Sound}
use Rattle.primus_reduce.specs.Ring.{meant}
use Rattle.primus_reduce.specs.declared.modulus.Modulus.{Modulus}
use Rattle.gadget_constants.specs.declared.prepared.PreparedBasis.{PreparedBasis}

-- the basis of the scheme, for words of 32 bits
abbrev pub basis_by : Modulus → ℕ → ℕ → Basis
basis_by m b L = basis_of 32 (meant m) b L

abbrev pub basis_in : PreparedBasis → Basis
basis_in p = basis_by p.modulus p.log_basis p.level_count

-- T from base log, L and d
abbrev pub wrap_at : ℕ → ℕ → ℕ → ℕ
wrap_at log L d = (2 ^ log / 2 - 1) * (2 ^ (L * log) - 1) / (2 ^ log - 1) * 2 ^ d + max (bound_of d) 1

-- where that fits a word
pub record Narrow (log L d : ℕ) : Type 0 where
  pub least : 2 ≤ log
  pub most : log < 32
  pub some : 1 ≤ L
  pub room : L * log + d ≤ 32
  pub fits : wrap_at log L d < 2 ^ 32

pub record Ready (p : PreparedBasis) : Type 0 where
  pub sound : Sound 32 (meant p.modulus) p.log_basis p.level_count
  pub dropped-is : p.drop_bits ≡ dropped (basis_in p)
  pub threshold-is : p.threshold ≡ threshold (basis_in p)
  pub add_is : p.add ≡ 2 ^ (basis_in p).bits - (basis_in p).modulus
  pub offset_is : p.modulus_minus_basis ≡ (basis_in p).modulus - base (basis_in p)

-- the constants of a basis
abbrev pub prepared_of : Modulus → ℕ → ℕ → PreparedBasis
prepared_of m log L =
    record {
      modulus = m;
      log_basis = log;
      level_count = L;
      drop_bits = dropped (basis_by m log L);
      threshold = threshold (basis_by m log L);
      add = 2 ^ (basis_by m log L).bits - (basis_by m log L).modulus;
      modulus_minus_basis = (basis_by m log L).modulus - base (basis_by m log L);
    }

-- weight j as a word from d, base log and L, for j below L; there are no others
abbrev pub scalar_at : ℕ → ℕ → ℕ → ℕ → ℕ
scalar_at d log L j = pick (nat_lt j L) (2 ^ (d + j * log) % 2 ^ 32) 0
