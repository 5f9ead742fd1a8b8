use Rattle.std.proofs.Common.{◌≡◌, ◌%◌, ◌^◌, ap, ◌∙◌, arith}
use Rattle.primus_reduce.specs.Dot.{sum_with}
use Rattle.primus_reduce.proofs.Sums.{dot_mod}
use Rattle.primus_reduce.proofs.modulus.Modulus.reduce_dot_product.Goals as goal

pub returns-in-Native : goal.returns-in-Native
returns-in-Native g c =
    rw c.in-Native.is
    (dot_mod (g.T.Factor.word_of (2 ^ 32)) c.args.a.now c.args.b.now (2 ^ 32) _ _ (g.met.T.Factor.by_words (2 ^ 32) c.args.a.now c.args.b.now) (λ e. omega arith) (rw c.in-Native.is at c.wrapping_sum.ensures))

pub returns-in-Some : goal.returns-in-Some
returns-in-Some g c =
    let q = c.in-Explicit.q in
    let e : c.in-Some.d.q ≡ q = c.in-Some.ensures in
    rw c.in-Explicit.is
    (dot_mod (g.T.Factor.word_of q) c.args.a.now c.args.b.now q _ _ (g.met.T.Factor.by_words q c.args.a.now c.args.b.now) (λ z. omega (arith, c.in-Some.d.positive, e))
    (c.reduced_sum.ensures ∙ ap (λ n. sum_with (g.T.Factor.word_of q) c.args.a.now c.args.b.now % n) e))
