use Rattle.std.proofs.Common.{arith, rules, length, ◌-◌}
use Rattle.lwe_samples.proofs.Laws.{sample_is}
use Rattle.lwe_samples.proofs.write_extracted.Goals as goal

pub returns : goal.returns
returns c =
    let n = length c.args.out.now - 1 in
    sample_is _ n c.args.index c.args.input.now _ _ _ _ _ _ _ _ c.args.ring.positive c.requires.0 (omega (arith, c.requires.1))
    c.split_at.ensures.front c.split_at.ensures.back c.split_at-2.ensures.front c.split_at-2.ensures.back
    (omega arith) (omega arith) (λ k h. c.loop-k.invariant k (omega arith)) c.copy_words.ensures (search rules)
