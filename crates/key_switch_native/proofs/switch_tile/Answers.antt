use Rattle.std.proofs.Common.{ap, ◌∙◌, arith, rules}
use Rattle.std.proofs.lemmas.List.{map-id}
use Rattle.primus_reduce.specs.Ring.{size_of}
use Rattle.key_switch_tile.proofs.Walks.{reached_start}
use Rattle.key_switch_native.proofs.Wrapping.{wrapped_fits, wrapped_all}
use Rattle.key_switch_native.proofs.switch_tile.Goals as goal

pub loop-i-init : goal.loop-i-init
loop-i-init c = (search rules, reached_start c.args.tile.shaped _ (map-id _ ∙ c.start.ensures))

pub place-requires : goal.place-requires
place-requires c =
    (c.loop-i-test.true, c.lanes-lanes.ensures, c.loop-i.invariant.1, wrapped_fits c.args.tile.shaped (ap size_of c.requires.0) _ c.loop-i.invariant.0)

pub loop-i-preserved : goal.loop-i-preserved
loop-i-preserved c = (search rules, c.place.ensures.0)

pub returns : goal.returns
returns c = wrapped_all c.args.tile.shaped (ap size_of c.requires.0) _ c.loop-i.invariant.0 (omega arith) c.loop-i.invariant.1
