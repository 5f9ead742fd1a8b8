use Rattle.std.proofs.Common.{◌∙◌}
use Rattle.gadget_constants.proofs.Constants.{decomposer_ready}
use Rattle.gadget_constants.proofs.Columns.{written_next, written_all}
use Rattle.gadget_constants.proofs.word.write_columns.Goals as goal

pub loop-i-preserved : goal.loop-i-preserved
loop-i-preserved c = (
  c.loop-i.invariant.0,
  written_next _ c.requires.0 _ _ _ _ _ c.loop-i-test.true (c.decomposer-d.ensures ∙ decomposer_ready _ c.requires.0 _ (c.requires.1 _ c.loop-i-test.true))
      (rw c.loop-i.invariant.0 at c.write_column.ensures) c.loop-i.invariant.1,
)

pub returns : goal.returns
returns c = written_all _ _ _ _ c.loop-i-test.false c.loop-i.invariant.1
