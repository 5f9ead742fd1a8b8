use Rattle.std.proofs.Common.{length, pos}
use Rattle.scheme.specs.Lwe.{signed}
use Rattle.scheme.proofs.Public.{Upto}
use Rattle.primus_reduce.specs.Ring.{size_of}
use Rattle.lwe_errors.specs.Errors.{errors_in}
use Rattle.lwe_public_rows.proofs.rows.write_public.Given as goal

abbrev pub invariant-loop-i : goal.invariant-loop-i
invariant-loop-i l = Upto (size_of l.ring.modulus) (length l.coefficients) l.key (errors_in l.ring.modulus l.fn.errors) (pos l.plaintext) (signed l.coefficients) l.i l.out
