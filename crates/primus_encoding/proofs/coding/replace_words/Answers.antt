use Rattle.std.proofs.Common.{refl, ap, ◌∙◌, arith, get_or}
use Rattle.scheme.proofs.InPlace.{filled_word}
use Rattle.primus_encoding.specs.Coding.{coded_word, message_fault}
use Rattle.primus_encoding.proofs.Laws.{message_at, coded_start, coded_next}
use Rattle.primus_encoding.proofs.coding.replace_words.Goals as goal

pub loop-word-init : goal.loop-word-init
loop-word-init c =
    coded_start c.args.moduli.t c.args.moduli.modulus c.args.values.now c.args.values.now refl c.args.coding

pub code_word-requires : goal.code_word-requires
code_word-requires c =
    ap (message_fault c.args.coding c.args.moduli.t) (filled_word _ _ _ _ c.loop-word.invariant (omega arith))
    ∙ message_at c.args.coding c.args.moduli.t c.args.values.now c.requires c.loop-word.word-index (omega arith)

pub loop-word-preserved : goal.loop-word-preserved
loop-word-preserved c =
    coded_next c.args.moduli.t c.args.moduli.modulus c.args.values.now c.args.values.now refl c.args.coding _ c.loop-word.word-index c.loop-word.invariant (omega arith) _
    (c.code_word.ensures ∙ ap (λ x. coded_word c.args.coding c.args.moduli.t c.args.moduli.modulus x (get_or c.loop-word.values c.loop-word.word-index 0)) (filled_word _ _ _ _ c.loop-word.invariant (omega arith)))
