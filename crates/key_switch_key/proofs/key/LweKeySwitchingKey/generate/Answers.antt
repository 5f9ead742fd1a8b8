use Rattle.std.proofs.Common.{sym}
use Rattle.check_order.proofs.Answers.{unwritten, handed_on}
use Rattle.key_switch_entries.proofs.Entries.{generable}
use Rattle.key_switch_key.proofs.key.LweKeySwitchingKey.generate.Goals as goal

pub returns-in_err-generate_refusal : goal.returns-in_err-generate_refusal
returns-in_err-generate_refusal c = rw (handed_on _ c.from_residual.ensures.1) (record { writes = unwritten _ c.in_err-generate_refusal.ensures })

pub write_entries-requires : goal.write_entries-requires
write_entries-requires c = generable (record { none = sym c.in_ok-generate_refusal.ensures })
