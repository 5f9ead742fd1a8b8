use Rattle.std.proofs.Common.{arith}
use Rattle.primus_encoding.proofs.Laws.{coded_start, coded_next}
use Rattle.primus_encoding.proofs.coding.write_words.Goals as goal

pub loop-i-init : goal.loop-i-init
loop-i-init c =
    coded_start c.args.moduli.t c.args.moduli.modulus c.args.input.now c.args.output.now c.requires.1 c.args.coding

pub loop-i-preserved : goal.loop-i-preserved
loop-i-preserved c =
    coded_next c.args.moduli.t c.args.moduli.modulus c.args.input.now c.args.output.now c.requires.1 c.args.coding _ c.loop-i.i c.loop-i.invariant (omega arith) _ c.code_word.ensures
