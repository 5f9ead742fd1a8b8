use Rattle.std.proofs.Common.{◌≡◌, ◌+◌, ◌-◌, arith}
use Rattle.key_switch_key.proofs.Passed.{Found, entry_told}
use Rattle.key_switch_key.proofs.key.LweKeySwitchingKey.entry_words.Goals as goal

pub returns-in_default : goal.returns-in_default
returns-in_default c = rw c.in_default.is at (entry_told c.args.params c.args.key.now c.args.i c.args.j c.entry.ensures)

pub returns-in_default-place : goal.returns-in_default-place
returns-in_default-place c = rw c.in_default-place.is at (entry_told c.args.params c.args.key.now c.args.i c.args.j c.in-Ok.ensures)

pub overflow_add-end : goal.overflow_add-end
overflow_add-end c =
    let found : Found c.args.params c.args.key.now c.args.i c.args.j c.in-Some.start = rw c.in-Some.is at (entry_told c.args.params c.args.key.now c.args.i c.args.j c.in-Ok.ensures) in
    omega (arith, found.narrow, c.get.ensures)

pub overflow_add-end-2 : goal.overflow_add-end-2
overflow_add-end-2 c =
    let found : Found c.args.params c.args.key.now c.args.i c.args.j c.in-Some.start = rw c.in-Some.is at (entry_told c.args.params c.args.key.now c.args.i c.args.j c.in-Ok.ensures) in
    omega (arith, found.within, c.get.ensures)

pub offset_bounds-key-start : goal.offset_bounds-key-start
offset_bounds-key-start c =
    let found : Found c.args.params c.args.key.now c.args.i c.args.j c.in-Some.start = rw c.in-Some.is at (entry_told c.args.params c.args.key.now c.args.i c.args.j c.in-Ok.ensures) in
    omega (arith, found.within)

pub slice_bounds-result-end-2 : goal.slice_bounds-result-end-2
slice_bounds-result-end-2 c =
    let found : Found c.args.params c.args.key.now c.args.i c.args.j c.in-Some.start = rw c.in-Some.is at (entry_told c.args.params c.args.key.now c.args.i c.args.j c.in-Ok.ensures) in
    omega (arith, found.within, c.get.ensures)

pub returns : goal.returns
returns c =
    let found : Found c.args.params c.args.key.now c.args.i c.args.j c.in-Some.start = rw c.in-Some.is at (entry_told c.args.params c.args.key.now c.args.i c.args.j c.in-Ok.ensures) in
    let width : c.in-Some.start + (c.get.result + 1) - c.in-Some.start ≡ c.get.result + 1 = omega arith in
    rw (width, c.get.ensures) found.part
