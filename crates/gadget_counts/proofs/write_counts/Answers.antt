use Rattle.std.proofs.Common.{sym, ◌∙◌, ap}
use Rattle.primus_reduce.specs.Ring.{power_of_two}
use Rattle.gadget_counts.proofs.Counting.{full_of}
use Rattle.gadget_counts.proofs.write_counts.Goals as goal
use Rattle.gadget_counts.proofs.write_counts.Goals.{in_default-via-in-Explicit+else-not-is_power_of_two, in_default-via-in_default}

pub write_closed-requires : goal.write_closed-requires
write_closed-requires c =
    elim c.in_default.branch [
      | in_default-via-in-Explicit+else-not-is_power_of_two w ↦
          (c.requires.0, full_of c.args.p.modulus (sym w.is_power_of_two.ensures ∙ w.if-not-is_power_of_two.false), c.requires.1)
      | in_default-via-in_default w ↦ (c.requires.0, full_of c.args.p.modulus (ap power_of_two w.in_default.is), c.requires.1)
    ]
