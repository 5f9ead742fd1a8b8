-- What a basis says of itself.
-- Assumes nothing.
use mathlib.Core.Path.{◌≡◌, sym, ap, ◌∙◌}
use Prim.Native.Nat.{ℕ, ◌+◌, ◌*◌, ◌%◌, ◌^◌}
use lib.Dec.{ltb}
use Rattle.scheme.specs.Numbers.{pick, tabulate}
use Rattle.scheme.specs.Basis.{dropped}
use Rattle.scheme.proofs.Reading.{weight_power}
use Rattle.scheme.proofs.Lists.{tabulate_ext}
use Rattle.gadget_constants.specs.Prepared.{scalar_at}
use Rattle.primus_decompose.specs.Answers.{basis, weight_word}
use Rattle.primus_decompose.specs.declared.primitive.basis.ApproxSignedBasis.{ApproxSignedBasis}

pub weights_are : (b : ApproxSignedBasis) (d : ℕ) → d ≡ dropped (basis b)
    → tabulate 16 (scalar_at d b.log_basis.0 b.level_count.0) ≡ tabulate 16 (weight_word b)
weights_are b d e =
    tabulate_ext 16 _ _
    (λ j h. ap (λ n. pick (ltb j b.level_count.0) (n % 2 ^ 32) 0)
    (ap (λ n. 2 ^ (n + j * b.log_basis.0)) e ∙ sym (weight_power (basis b) j)))
