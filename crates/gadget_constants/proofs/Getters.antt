-- Powers of two as words.
-- Assumes nothing.
use Rattle.std.proofs.Common.{◌≡◌, ℕ, ◌-◌, ◌%◌, ◌^◌, ◌≤◌, sym, ap, ◌∙◌, arith, pow-add}
use Rattle.std.proofs.Math.Nat.{mul-mod_right}

pub power_over : (n : ℕ) → 32 ≤ n → 0 ≡ 2 ^ n % 2 ^ 32
power_over n h = sym (ap (λ e. 2 ^ e % 2 ^ 32) (omega arith) ∙ ap (λ p. p % 2 ^ 32) (pow-add 2 32 (n - 32)) ∙ mul-mod_right (2 ^ 32) (2 ^ (n - 32)))
