use lib.IntN.{pos}
use Rattle.scheme.specs.Lwe.{secret_of}
use Rattle.primus_reduce.specs.Ring.{size_of}
use Rattle.lwe_errors.specs.Errors.{errors_in}
use Rattle.lwe_secret_key.specs.Key.{key_of}
use Rattle.lwe_secret_key.proofs.Runs.{Rows}
use Rattle.lwe_public_rows.proofs.rows.write_zeros.Given as goal

abbrev pub invariant-loop-i : goal.invariant-loop-i
invariant-loop-i l = Rows (size_of l.ring.modulus) l.n l.masks (secret_of (key_of l.key)) (errors_in l.ring.modulus l.fn.errors) (λ i. pos 0) l.n l.initial.out l.out l.i
