use Rattle.key_switch_tile.proofs.Lanes.{start_row_is}
use Rattle.key_switch_tile.proofs.tile.start_row.Goals as goal

pub returns : goal.returns
returns c = start_row_is _ _ _ c.requires (c.fill.ensures.after (λ y e. e))
