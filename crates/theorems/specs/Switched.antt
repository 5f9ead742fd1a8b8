-- A ciphertext switched with a generated key.
use Rattle.std.specs.Prelude.{List, ℕ, ◌≤◌, ℤ, pos, nat_abs, ◌+ℤ◌, get_or}
use Rattle.scheme.specs.Numbers.{nearest}
use Rattle.scheme.specs.Basis.{Basis}
use Rattle.scheme.specs.Lwe.{Key, Words, Signed, secret_of, words, signed, phase_of, Errors, error_at}
use Rattle.scheme.specs.Switch.{switch_error, magnitude, switch_bound}
use Rattle.theorems.specs.Phases.{HasPhase}

-- "with s taken as c, or as w or w − q, whichever is nearer zero"
abbrev pub taken_as : ℕ → Key → ℕ → ℤ
taken_as q (Words s) i = nearest q (get_or s i 0)
taken_as q (Signed s) i = signed s i

-- y is x switched from `key` to s', with the errors within ±E
pub record Switched (b : Basis) (n m : ℕ) (key : Key) (s' : List ℕ) (errors : Errors) (E : ℕ) (x y : List ℕ)
    : Type 0 where
  -- "the output phase is the input phase plus Σ sᵢεᵢ minus Σ digit·e, modulo q",
  pub phase :
      HasPhase b.modulus m y (words s')
      (pos (phase_of b.modulus n x (secret_of key)) +ℤ switch_error b n (secret_of key) (error_at b.modulus errors) x)
  -- the same with s so taken,
  pub nearer :
      HasPhase b.modulus m y (words s')
      (pos (phase_of b.modulus n x (secret_of key))
      +ℤ switch_error b n (taken_as b.modulus key) (error_at b.modulus errors) x)
  -- and the error is "at most H × Σ|sᵢ| + n × L × (B/2) × E in absolute value"
  pub bounded :
      nat_abs (switch_error b n (taken_as b.modulus key) (error_at b.modulus errors) x)
      ≤ switch_bound b n (magnitude n (taken_as b.modulus key)) E
