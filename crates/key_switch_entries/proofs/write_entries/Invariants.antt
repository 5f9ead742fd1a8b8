use Rattle.scheme.specs.Lwe.{words as words_of, secret_of, error_count}
use Rattle.lwe_errors.specs.Errors.{errors_of, errors_in}
use Rattle.lwe_secret_key.specs.Key.{key_of}
use Rattle.key_switch_entries.proofs.Entries.{Entered}
use Rattle.key_switch_entries.proofs.write_entries.Given as goal

abbrev pub invariant-loop-k : goal.invariant-loop-k
invariant-loop-k l = Entered l.p l.m (secret_of (key_of l.fn.key)) (words_of l.output_key) (errors_in l.modulus l.fn.errors) l.masks (error_count (errors_of l.fn.errors)) l.initial.out l.out l.k
