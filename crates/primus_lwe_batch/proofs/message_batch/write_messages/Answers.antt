use Rattle.std.proofs.Common.{ap, pos}
use Rattle.lwe_secret_key.proofs.Runs.{rows_start, rows_more}
use Rattle.scheme.proofs.Checks.{words_ok}
use Rattle.primus_lwe_batch.proofs.message_batch.write_messages.Goals as goal

pub encode_as-plaintext-requires : goal.encode_as-plaintext-requires
encode_as-plaintext-requires c = words_ok _ _ c.requires.1 _ c.loop-i-test.true

pub loop-i-init : goal.loop-i-init
loop-i-init c = rows_start _ _ _ _ _ _ _ _ c.requires.0

pub loop-i-preserved : goal.loop-i-preserved
loop-i-preserved c =
    rows_more _ _ _ _ _ _ _ _ _ _ c.loop-i.invariant c.loop-i-test.true _ (ap pos c.encode_as-plaintext.ensures) _ (rw c.ring.ensures at c.encrypt_row.ensures)
