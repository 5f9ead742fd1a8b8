use mathlib.Core.Path.{ap}
use Rattle.primus_reduce.specs.Ring.{size_of}
use Rattle.key_switch_explicit.proofs.Walking.{reduced}
use Rattle.key_switch_explicit.proofs.switch_tile.Goals as goal

pub returns : goal.returns
returns c =
    reduced c.args.tile.shaped (ap size_of c.requires.0) c.walk.ensures c.reduce_to.ensures
