-- The errors that a call is given.
use Rattle.std.specs.Prelude.{ℕ, ℤ}
use Rattle.scheme.specs.Lwe as S
use Rattle.primus_reduce.specs.Ring.{size_of}
use Rattle.primus_reduce.specs.declared.modulus.Modulus.{Modulus}
use Rattle.lwe_errors.specs.declared.LweErrorsRef.{LweErrorsRef}
use Rattle.lwe_errors.specs.declared.LweErrorsRef.TheVariants.{Encoded, Signed}

-- the errors that are lent
abbrev pub errors_of : LweErrorsRef → S.Errors
errors_of (Encoded ws) = S.ErrorWords ws.now
errors_of (Signed es) = S.ErrorNumbers es.now

-- error i, as the signed number that it counts as
abbrev pub errors_in : Modulus → LweErrorsRef → ℕ → ℤ
errors_in m es = S.error_at (size_of m) (errors_of es)
