-- Differences of words as signed numbers of 64 bits, and the reading in that form.
-- Assumes nothing.
use Rattle.std.proofs.Common.{◌≡◌, ℕ, ◌+◌, ◌%◌, ◌^◌, ltb, ℤ, pos, ◌-ℤ◌, sym, ap, ◌∙◌, ap₂}
use Rattle.scheme.specs.Numbers.{pick}
use Rattle.scheme.specs.Basis.{bound_of, dropped, bound}
use Rattle.scheme.specs.Reading.{threshold}
use Rattle.gadget_digits.specs.Walk.{adjusted}
use Rattle.gadget_digits.proofs.Adjusted.{reading_rest, rounding_rest}
use Rattle.primus_reduce.specs.Ring.{size_of}
use Rattle.gadget_constants.specs.declared.prepared.PreparedBasis.{PreparedBasis}
use Rattle.gadget_constants.specs.declared.word.ValueCarry.{ValueCarry}
use Rattle.gadget_constants.specs.Prepared.{Ready, basis_in}
use Rattle.gadget_constants.specs.Word.{init_of, reading_of}

module _ (p : PreparedBasis) (r : Ready p) (a : ℕ) (s : ValueCarry) (es : s ≡ init_of (basis_in p) a) (H D rest lost : ℕ)
    (eH : H ≡ bound_of p.drop_bits) (eD : D ≡ 2 ^ p.drop_bits) (er : rest ≡ (s.value + H) % D)
    (el : lost ≡ pick (ltb a p.threshold) 0 (size_of p.modulus)) where
  bound-is : H ≡ bound (basis_in p)
  bound-is = eH ∙ ap bound_of r.dropped-is

  rest_is : rest ≡ (adjusted (basis_in p) a + bound (basis_in p)) % 2 ^ dropped (basis_in p)
  rest_is =
      er ∙ ap₂ (λ v h. (v.value + h) % D) es bound-is
      ∙ ap (λ n. (adjusted (basis_in p) a + bound (basis_in p)) % n) (eD ∙ ap (λ n. 2 ^ n) r.dropped-is)

  pub read_is : (x y : ℤ) → x ≡ pos (a + H) -ℤ pos (rest + lost) → y ≡ pos rest -ℤ pos H → record { reading = x; error = y } ≡ reading_of (basis_in p) a
  read_is x y ex ey =
      ap₂ (λ u v. record { reading = u; error = v })
      (ex ∙ ap₂ (λ h l. pos (a + h) -ℤ pos (rest + l)) bound-is (el ∙ ap (λ t. pick (ltb a t) 0 (size_of p.modulus)) r.threshold-is)
      ∙ ap (λ n. pos (a + bound (basis_in p)) -ℤ pos (n + pick (ltb a (threshold (basis_in p))) 0 (size_of p.modulus))) rest_is
      ∙ sym (reading_rest (basis_in p) r.sound.accepted a))
      (ey ∙ ap₂ (λ n h. pos n -ℤ pos h) rest_is bound-is ∙ sym (rounding_rest (basis_in p) r.sound.accepted a))
