use Rattle.std.proofs.Common.{arith}
use Rattle.scheme.proofs.Checks.{words_ok}
use Rattle.primus_lwe_packed.proofs.message_packed.write_encodings.Goals as goal

pub encode_as-requires : goal.encode_as-requires
encode_as-requires c = words_ok _ _ c.requires.1 _ (omega arith)
