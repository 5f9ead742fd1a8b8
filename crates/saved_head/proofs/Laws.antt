-- What the kind of a number is.
-- Assumes nothing.
use Rattle.std.proofs.Common.{◌≡◌, ℕ, arith, eqb}
use Rattle.std.proofs.lemmas.Grind.{common_steps}
use Rattle.saved_head.specs.Kind.{kind_for, is_ciphertexts, is_packed, is_unknown}
use Rattle.saved_head.specs.Head.{kind_fails}

pub ciphertexts_is : (k : ℕ) → is_ciphertexts (kind_for k) ≡ eqb k 5
ciphertexts_is k = grind (arith, common_steps)

pub packed_is : (k : ℕ) → is_packed (kind_for k) ≡ eqb k 6
packed_is k = grind (arith, common_steps)

pub unknown_is : (k : ℕ) → is_unknown (kind_for k) ≡ kind_fails k
unknown_is k = grind (arith, common_steps)
