use Rattle.std.proofs.Common.{◌∙◌}
use Rattle.primus_reduce.specs.Ring.{size_of}
use Rattle.lwe_errors.proofs.Laws.{residue_is}
use Rattle.lwe_errors.proofs.LweErrorsRef.residue.Goals as goal

pub returns-in-Encoded : goal.returns-in-Encoded
returns-in-Encoded c = rw c.in-Encoded.is (c.residue_at.ensures ∙ residue_is (size_of c.args.modulus) c.in-Encoded.words.now c.args.i)
