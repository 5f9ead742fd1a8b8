use Rattle.std.proofs.Common.{refl, arith}
use Rattle.scheme.specs.Lwe.{public_key}
use Rattle.lwe_secret_key.proofs.Runs.{rows_start, rows_more, rows_done}
use Rattle.lwe_public_rows.proofs.rows.write_zeros.Goals as goal

pub loop-i-init : goal.loop-i-init
loop-i-init c = rows_start _ _ _ _ _ _ _ _ (record { each = c.requires.0; rooms = c.requires.1 })

pub loop-i-preserved : goal.loop-i-preserved
loop-i-preserved c = rows_more _ _ _ _ _ _ _ _ _ _ c.loop-i.invariant c.loop-i-test.true 0 refl _ c.encrypt_row.ensures

pub returns : goal.returns
unfolding public_key
returns c = rows_done _ _ _ _ _ _ _ _ _ _ c.loop-i.invariant (omega arith)
