-- The key that a call is given.
use Rattle.scheme.specs.Lwe as S
use Rattle.lwe_secret_key.specs.declared.key.LweSecretKeyRef.{LweSecretKeyRef}
use Rattle.lwe_secret_key.specs.declared.key.LweSecretKeyRef.TheVariants.{Encoded, Signed}

-- the numbers that a lent key holds
abbrev pub key_of : LweSecretKeyRef → S.Key
key_of (Encoded xs) = S.Words xs.now
key_of (Signed cs) = S.Signed cs.now
