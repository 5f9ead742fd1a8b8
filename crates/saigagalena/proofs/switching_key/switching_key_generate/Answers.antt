use Rattle.saigagalena.proofs.switching_key.switching_key_generate.Goals as goal

-- the number of the call that is made, of the parameters that the numbers give
pub returns : goal.returns
returns c = rw (c.code.ensures, ← c.switching_for-params.ensures) c.generate.ensures
