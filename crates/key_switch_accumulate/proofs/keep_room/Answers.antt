use Rattle.key_switch_accumulate.proofs.Rows.{kept_reduced, kept_still}
use Rattle.key_switch_accumulate.proofs.keep_room.Goals as goal

pub returns-then-limit-ceiling : goal.returns-then-limit-ceiling
returns-then-limit-ceiling c =
    rw c.from.ensures (kept_reduced _ _ _ _ _ c.args.q.positive c.requires c.reduce_all.ensures)

pub returns-else-limit-ceiling : goal.returns-else-limit-ceiling
returns-else-limit-ceiling c = kept_still _ _ _ _ c.if-limit-ceiling.false
