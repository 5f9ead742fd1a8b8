use Rattle.std.proofs.Common.{refl}
use Rattle.scheme.specs.Checks.{first_in}
use Rattle.scheme.proofs.Order.{only}
use Rattle.check_order.proofs.Answers.{refused, served, handed_on}
use Rattle.codec_words.specs.Words.{rows}
use Rattle.primus_encoding.proofs.rounded.RoundedCodec.try_new.Goals as goal

pub returns-in_err-judge : goal.returns-in_err-judge
unfolding first_in
returns-in_err-judge c =
    rw (handed_on _ c.from_residual.ensures.1) (refused _ _ _ (only (rows c.args.plaintext_modulus c.args.ciphertext_modulus) c.in_err-judge.ensures.first refl))

pub returns : goal.returns
unfolding first_in
returns c = served _ _ _ (only (rows c.args.plaintext_modulus c.args.ciphertext_modulus) c.in_ok-judge.ensures.first refl) refl
