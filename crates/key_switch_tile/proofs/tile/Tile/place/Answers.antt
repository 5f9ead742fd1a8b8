use Rattle.std.proofs.Common.{sym, ◌∙◌, arith}
use Rattle.std.proofs.lemmas.List.{length-map}
use Rattle.key_switch_tile.proofs.Walks.{place_in, place_asks, place_room, reached_next}
use Rattle.key_switch_tile.proofs.Places.{sinking_start, sinking_end, entry_sized, level_room, sinking_on}
use Rattle.key_switch_tile.proofs.tile.Tile.place.Goals as goal

pub loop-j-init : goal.loop-j-init
loop-j-init g c = sinking_start _ _ (place_asks c.args.self.shaped c.args.self.few c.requires.0 c.requires.1.count c.requires.2.sized)

pub overflow_mul-start-2 : goal.overflow_mul-start-2
overflow_mul-start-2 g c = omega (arith, place_in c.args.self.shaped c.args.i c.requires.0, c.ranges.self)

pub level-requires : goal.level-requires
level-requires g c =
    let room = place_room c.args.self.shaped c.requires.0 c.requires.1 c.requires.3 in
    (entry_sized c.loop-j.invariant c.loop-j-test.true, c.loop-j.auto.acc ∙ sym (length-map _ _) ∙ c.requires.2.sized, level_room c.loop-j.invariant c.loop-j-test.true room)

pub loop-j-preserved : goal.loop-j-preserved
loop-j-preserved g c = sinking_on c.loop-j.invariant c.loop-j-test.true c.level.ensures

pub returns : goal.returns
returns g c =
    let done = sinking_end c.loop-j.invariant (omega arith) in
    (reached_next c.args.self.shaped c.requires.0 c.requires.1 c.requires.3 c.requires.2 done, done.most)
