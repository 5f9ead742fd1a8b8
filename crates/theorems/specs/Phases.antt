-- Phases modulo q.
use Rattle.std.specs.Prelude.{List, ℕ, ℤ, pos, ◌+ℤ◌, ◌-ℤ◌, ◌*ℤ◌}
use Rattle.scheme.specs.Numbers.{Cong, sum_to}
use Rattle.scheme.specs.Lwe.{phase_of, packed_phase}

-- the phase of the ciphertext x under the secret s is z modulo q
abbrev pub HasPhase : ℕ → ℕ → List ℕ → (ℕ → ℤ) → ℤ → Type 0
HasPhase q n x s z = Cong q (pos (phase_of q n x s)) z

-- the same of body i of the packed ciphertext x
abbrev pub HasPackedPhase : ℕ → ℕ → List ℕ → (ℕ → ℤ) → ℕ → ℤ → Type 0
HasPackedPhase q n x s i z = Cong q (pos (packed_phase q n x s i)) z

-- "With f the n + 1 errors and eᵢ row i's, the phase is p + fₙ − Σ fⱼsⱼ + Σ rᵢeᵢ"
abbrev pub public_phase : ℕ → ℤ → (ℕ → ℤ) → (ℕ → ℤ) → (ℕ → ℤ) → (ℕ → ℤ) → ℤ
public_phase n p f s r e = p +ℤ f n -ℤ sum_to n (λ j. f j *ℤ s j) +ℤ sum_to n (λ i. r i *ℤ e i)
