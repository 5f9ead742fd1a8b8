use Rattle.std.proofs.Common.{sym}
use Rattle.scheme.proofs.Checks.{plaintext_ok}
use Rattle.scheme.proofs.Modulus.{size_most}
use Rattle.scheme.proofs.Order.{passed}
use Rattle.check_order.proofs.Answers.{refused, handed_on}
use Rattle.lwe_tag.specs.Answers.{mark_rows}
use Rattle.lwe_tag.proofs.Laws.{counted}
use Rattle.lwe_tag.proofs.LweTag.is_good.Goals as goal

pub returns-in_err-mark_refusal : goal.returns-in_err-mark_refusal
returns-in_err-mark_refusal c = rw (handed_on _ c.from_residual.ensures.1) (refused _ _ _ c.in_err-mark_refusal.ensures)

pub marked-requires : goal.marked-requires
marked-requires c =
    let no = passed (mark_rows c.args.self c.args.modulus c.args.plaintext_modulus) (sym c.in_ok-mark_refusal.ensures) in (
      plaintext_ok _ (no 7 tt),
      rw c.size.ensures.0 (size_most 32 _ c.size.ensures.1),
      counted c.args.self (no 17 tt),
    )
