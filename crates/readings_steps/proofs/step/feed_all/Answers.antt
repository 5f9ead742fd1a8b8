use Rattle.std.proofs.Common.{◌≡◌, ◌+◌, refl, ap, ◌∙◌, length, take}
use Rattle.std.proofs.Math.ListN.{set}
use Rattle.readings_steps.specs.Steps.{fed_all, turns_fed, places}
use Rattle.readings_steps.proofs.Fed.{fed-next, no_turns, length-places, put_next, full_next, step_so, first_turns}
use Rattle.readings_steps.proofs.step.feed_all.Goals as goal
use Rattle.readings_steps.proofs.step.feed_all.Goals.{then-i-lt64, else-i-lt64}

pub loop-i-init : goal.loop-i-init
unfolding fed_all turns_fed
loop-i-init c = (refl, refl, no_turns 64 _)

pub loop-i-preserved : goal.loop-i-preserved
loop-i-preserved c =
    let h = c.loop-i-test.true in
    let v = c.loop-i.invariant in
    let a = c.args.before in
    let l = c.loop-i in
    let placed : c.if-i-lt64.turns ≡ places 64 a.turn (turns_fed a (take (l.i + 1) c.args.bytes.now)) =
    elim c.if-i-lt64.branch [
      | then-i-lt64 w ↦ w.turns-is ∙ ap (λ r. set l.turns l.i r.turn) c.feed-m.ensures
          ∙ put_next 64 a l.m c.args.bytes.now l.i h v.1 a.turn l.turns v.2
      | else-i-lt64 w ↦ w.turns-is
          ∙ full_next 64 a l.m c.args.bytes.now l.i h v.1 w.if-i-lt64.false a.turn l.turns v.2
    ] in (
      ap length placed ∙ length-places 64 _ _,
      c.feed-m.ensures ∙ fed-next a l.m c.args.bytes.now l.i h v.1,
      placed,
    )

pub returns-clause-counted : goal.returns-clause-counted
returns-clause-counted c =
    let v = c.loop-i.invariant in
    let a = c.args.before in
    let l = c.loop-i in
    let xs = c.args.bytes.now in
    ap (λ s. take s.count s.turns) (step_so a l.m xs l.i l.turns c.loop-i-test.false v.1 v.2) ∙ first_turns a xs
