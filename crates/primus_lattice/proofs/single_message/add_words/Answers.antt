use Rattle.std.proofs.Common.{◌+◌, ◌%◌, arith}
use Rattle.scheme.proofs.Checks.{words_ok}
use Rattle.scheme.proofs.InPlace.{zipped_next, filled_word}
use Rattle.primus_reduce.specs.Ring.{size_of}
use Rattle.primus_lattice.proofs.single_message.add_words.Goals as goal

pub add_word-requires : goal.add_word-requires
add_word-requires c = (
  rw (filled_word _ _ _ _ c.loop-i.invariant (omega arith)) (words_ok (size_of c.args.modulus) c.args.x.now c.requires.1 c.loop-i.i (omega arith)),
  words_ok (size_of c.args.modulus) c.args.y.now c.requires.2 c.loop-i.i (omega arith),
)

pub loop-i-preserved : goal.loop-i-preserved
loop-i-preserved c = zipped_next (λ x y. (x + y) % size_of c.args.modulus) _ _ _ _ c.requires.0 c.loop-i.invariant _ (omega arith) c.add_word.ensures
