use Rattle.std.proofs.Common.{rules, arith}
use Rattle.scheme.specs.Lwe.{words}
use Rattle.lwe_packing.proofs.Laws.{phase_of_input}
use Rattle.lwe_packing.proofs.packed.phases.Goals as goal

pub loop-i-preserved : goal.loop-i-preserved
loop-i-preserved c =
    let phase = phase_of_input _ _ _ _ _ _ (words c.args.secret.now) (omega (arith, c.requires.0, c.loop-i-test.true, c.loop-i.auto.i-end)) c.split_at.ensures.front_len c.split_at.ensures.front c.split_at.ensures.back c.phase.ensures in
    search rules
