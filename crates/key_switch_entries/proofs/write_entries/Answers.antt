use Rattle.scheme.specs.Lwe.{words as words_of, secret_of}
use Rattle.lwe_errors.specs.Errors.{errors_in}
use Rattle.lwe_secret_key.specs.Key.{key_of}
use Rattle.key_switch_entries.proofs.Entries.{entering, entered_start, entered_on, entered_end}
use Rattle.key_switch_entries.proofs.write_entries.Goals as goal

pub loop-k-init : goal.loop-k-init
loop-k-init c = entered_start (secret_of (key_of c.args.key)) (words_of c.args.output_key.now) (errors_in c.prepared-p.result.modulus c.args.errors) c.args.out.now (entering c.requires c.prepared-p.ensures c.get-m.ensures c.scalars-weights.ensures)

pub loop-k-preserved : goal.loop-k-preserved
loop-k-preserved c =
    entered_on (entering c.requires c.prepared-p.ensures c.get-m.ensures c.scalars-weights.ensures) (secret_of (key_of c.args.key)) (words_of c.args.output_key.now) (errors_in c.prepared-p.result.modulus c.args.errors) c.loop-k.invariant (rw c.count-k-end.ensures at c.loop-k-test.true)
    c.residue-secret.ensures c.reduce_mul-plaintext.ensures c.encrypt_row.ensures

pub returns : goal.returns
returns c =
    entered_end c.requires c.prepared-p.ensures c.get-m.ensures (secret_of (key_of c.args.key)) (words_of c.args.output_key.now) c.loop-k.invariant
    (rw c.count-k-end.ensures at c.loop-k-test.false)
