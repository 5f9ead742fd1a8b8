use Rattle.key_switch_accumulate.proofs.Rows.{less-small, less_large}
use Rattle.key_switch_accumulate.proofs.accumulate_entry.Goals as goal

pub returns-then-digit-half : goal.returns-then-digit-half
returns-then-digit-half c =
    less-small _ _ _ _ _ c.requires c.if-digit-half.true _ c.add_multiple.ensures

pub returns-else-digit-half : goal.returns-else-digit-half
returns-else-digit-half c =
    less_large _ _ _ _ _ c.requires c.if-digit-half.false _ c.add_multiple-else-digit-half.ensures
