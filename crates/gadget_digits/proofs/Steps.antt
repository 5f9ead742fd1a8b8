-- Words by the code's B, and the three ways through a step.
-- Assumes nothing.
use Rattle.std.proofs.Common.{◌≡◌, ◌≢◌, ℕ, ◌+◌, ◌-◌, ◌/◌, ◌%◌, ◌^◌, ◌<◌, ◌≤◌, true, false, min, bit_and, sym, ap, ◌∙◌, arith, mod-eq_of_lt, pow_mono, lt-ltb, le-ltb, eq-eqb, ne_eqb}
use Rattle.std.proofs.Math.Nat.{div-eq_of_lt, lt_of_lt_of_le}
use Rattle.std.proofs.Math.Decide.{dec_lt}
use Rattle.std.proofs.lemmas.Nat.{and_mask}
use Rattle.gadget_digits.specs.Walk.{window_digit, window_carry}
use Rattle.gadget_digits.specs.declared.SignedDecomposer.{SignedDecomposer}
use Rattle.gadget_digits.specs.Step.{window_of, step_to, step_of}

wide : (log x : ℕ) → x < 2 ^ 32 → 32 ≤ log → x < 2 ^ log
wide log x h k = lt_of_lt_of_le h (pow_mono k)

pub above_none : (log x : ℕ) → x < 2 ^ 32 → 32 ≤ log → 0 ≡ x / 2 ^ log
above_none log x h k = sym (div-eq_of_lt (wide log x h k))

-- the code's B is 2^63 where B is more
pub masked : (log x : ℕ) → x < 2 ^ 32 → bit_and x (2 ^ min log 63 - 1) ≡ x % 2 ^ log
masked log x word = and_mask x (min log 63) ∙ go (dec_lt log 63)
  where
    go : Dec (log < 63) → x % 2 ^ min log 63 ≡ x % 2 ^ log
    go (yes h) = ap (λ n. x % 2 ^ n) (omega arith)
    go (no h) = mod-eq_of_lt (wide (min log 63) x word (omega arith)) ∙ sym (mod-eq_of_lt (wide log x word (omega arith)))

module _ (d : SignedDecomposer) (basis v : ℕ) (e : basis ≡ 2 ^ min d.log_basis 63) (most : v ≤ 2 ^ 32) (is : v ≡ window_of d) where
  -- a window that reaches half of the code's B has the basis itself
  whole : basis / 2 ≤ v → basis ≡ 2 ^ d.log_basis
  whole h = go (dec_lt d.log_basis 63)
    where
      go : Dec (d.log_basis < 63) → basis ≡ 2 ^ d.log_basis
      go (yes l) = e ∙ ap (λ n. 2 ^ n) (omega arith)
      go (no l) = absurd (omega (arith, e, pow_mono {i = 63} {j = min d.log_basis 63} (omega arith)))

  pub step_small : v < basis / 2 → step_to d (v % 2 ^ 32) false ≡ step_of d
  unfolding step_of window_digit window_carry
  step_small t =
      let l : v < 2 ^ d.log_basis / 2 = omega (arith, e, pow_mono {i = min d.log_basis 63} {j = d.log_basis} (omega arith)) in
      rw (← is, lt-ltb v (2 ^ d.log_basis / 2) l)

  pub step_top : basis / 2 ≤ v → v ≡ basis → step_to d (0 % 2 ^ 32) true ≡ step_of d
  unfolding step_of window_digit window_carry
  step_top t u = rw (← is, le-ltb v (2 ^ d.log_basis / 2) (rw (whole t) at t), eq-eqb v (2 ^ d.log_basis) (u ∙ whole t))

  pub step_large : basis / 2 ≤ v → v ≢ basis → step_to d ((v + d.modulus_minus_basis) % 2 ^ 32) true ≡ step_of d
  unfolding step_of window_digit window_carry
  step_large t u =
      rw (← is, le-ltb v (2 ^ d.log_basis / 2) (rw (whole t) at t), ne_eqb v (2 ^ d.log_basis) (λ f. u (f ∙ sym (whole t))))
