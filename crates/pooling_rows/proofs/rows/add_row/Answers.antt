use Rattle.std.proofs.Common.{arith}
use Rattle.pooling_rows.proofs.Places.{row_served, row_added}
use Rattle.pooling_rows.proofs.rows.add_row.Goals as goal

pub unwrap-requires : goal.unwrap-requires
unwrap-requires c =
    row_served c.get-width.result c.args.i c.args.tag c.args.total.now c.args.bytes.now _ c.get-width.ensures (omega arith) c.words_from.ensures
    c.tag_at-given.ensures c.add_assign.ensures c.requires.2

pub returns : goal.returns
returns c =
    row_added c.get-width.result c.args.i c.args.tag c.args.total.now c.args.bytes.now _ c.get-width.ensures (omega arith) c.words_from.ensures
    c.tag_at-given.ensures c.add_assign.ensures c.requires.2 _ c.unwrap.ensures
