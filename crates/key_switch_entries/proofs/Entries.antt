-- The entries of a generated key.
-- Assumes nothing.
use mathlib.Core.Path.{◌≡◌, refl, sym, ap, ap₂, subst, ◌∙◌}
use mathlib.Core.Bool.{Bool, true, false, not, ◌||◌}
use mathlib.Core.List.{List}
use Prim.Native.Nat.{ℕ, suc, ◌+◌, ◌*◌, ◌/◌, ◌%◌, ◌^◌, ◌<◌, ◌≤◌}
use native.Mathlib.Nat.{mod-lt, mod-eq_of_lt, mul-le-mul}
use native.Mathlib.Omega.{arith}
use lib.Dec.{eqb}
use lib.IntN.{ℤ, pos, ◌*ℤ◌}
use lib.ListN.{length, get_or, take, drop}
use lib.Pow.{pow_pos, pow_mono}
use borrow.Author.Tests.{eqb-true, lt-ltb}
use Rattle.scheme.specs.Numbers.{tabulate, rows_of}
use Rattle.scheme.specs.Basis.{weight}
use Rattle.scheme.specs.Lwe.{Key, Errors, error_count, error_at, encrypted}
use Rattle.scheme.specs.Switch.{generated_entry, generated}
use Rattle.scheme.specs.Checks.{refusal, length_fails}
use Rattle.scheme.proofs.Residue.{cong_refl, cong_trans, cong_of_eq, cong_mul}
use Rattle.scheme.proofs.Lists.{get_d_tabulate}
use Rattle.scheme.proofs.Rows.{Filling, filling_start, filling_next, filling_end}
use Rattle.scheme.proofs.Reading.{weight-below}
use Rattle.scheme.proofs.Switch.{encrypted_cong}
use Rattle.scheme.proofs.Public.{encrypted-row}
use Rattle.scheme.proofs.Checks.{length_ok}
use Rattle.scheme.proofs.Order.{passed, neither}
use Rattle.primus_reduce.specs.Ring.{size_of, modulo}
use Rattle.gadget_constants.specs.declared.prepared.PreparedBasis.{PreparedBasis}
use Rattle.primus_decompose.specs.declared.primitive.basis.ApproxSignedBasis.{ApproxSignedBasis}
use Rattle.primus_decompose.specs.Answers.{basis, weight_word, prepared_by}
use Rattle.gadget_constants.specs.Prepared.{Ready, basis_in}
use Rattle.lwe_secret_key.specs.Runs.{replaced}
use Rattle.lwe_secret_key.proofs.Laws.{modulo_stands}
use Rattle.key_switch_parameters.specs.declared.LweKeySwitchingParameters.{LweKeySwitchingParameters}
use Rattle.key_switch_parameters.specs.Answers.{q_in, n_in, m_in, levels_in}
use Rattle.key_switch_entries.specs.Answers.{generate_rows, Generable}
use Rattle.key_switch_parameters.proofs.Passed.{judged}

-- ---- the loop over the entries, from a secret s to a secret s'

-- what it asks, with the weights as words: `count` of them
pub record Entering (p : PreparedBasis) (weights : List ℕ) (m : ℕ) (masks : List ℕ) (count room : ℕ) : Type 0 where
  pub ready : Ready p
  pub weighted : (j : ℕ) → j < p.level_count → (j < 16) × (get_or weights j 0 ≡ weight (basis_in p) j)
  pub fits : room ≡ count * (m + 1)
  pub masked : length masks ≡ count * m

-- the entries below k are written over out₀
abbrev pub Entered : PreparedBasis → ℕ → (ℕ → ℤ) → (ℕ → ℤ) → (ℕ → ℤ) → List ℕ → ℕ → List ℕ → List ℕ → ℕ → Type 0
Entered p m s s' e masks count out₀ out k = Filling (generated_entry (basis_in p) m s s' e masks) (m + 1) count out₀ out k

pub entered_start : {p : PreparedBasis} {weights : List ℕ} {m : ℕ} {masks : List ℕ} {count : ℕ} (s s' e : ℕ → ℤ) (out : List ℕ)
    → Entering p weights m masks count (length out) → Entered p m s s' e masks count out out 0
unfolding generated_entry
entered_start {p} {m = m} {masks = masks} {count = count} s s' e out g =
    filling_start _ (m + 1) count out g.fits (λ k h. encrypted-row (size_of p.modulus) m count k masks s' _ _ g.masked h)

q_pos : {p : PreparedBasis} → Ready p → 0 < size_of p.modulus
q_pos {p} r = omega (arith, r.sound.accepted.fits, pow_pos p.log_basis)

module _ {p : PreparedBasis} {weights : List ℕ} {m : ℕ} {masks : List ℕ} {count room : ℕ} (g : Entering p weights m masks count room) where
  levels-some : 0 < p.level_count
  levels-some = g.ready.sound.accepted.some_level

  module _ (s s' e : ℕ → ℤ) {out₀ out : List ℕ} {k : ℕ} (f : Entered p m s s' e masks count out₀ out k) (h : k < count) where
    -- the words w and v stand for s i and for the plaintext
    pub entered_on : {w v : ℕ} → w ≡ modulo (size_of p.modulus) (s (k / p.level_count)) → v ≡ modulo (size_of p.modulus) (pos w *ℤ pos (get_or weights (k % p.level_count) 0))
        → {out' : List ℕ} → out' ≡ replaced out (k * (m + 1)) (m + 1) (encrypted (size_of p.modulus) m (take m (drop (k * m) masks)) s' (e k) (pos v))
        → Entered p m s s' e masks count out₀ out' (k + 1)
    unfolding generated_entry
    entered_on {w} {v} ew ev {out'} eo =
        filling_next f h out'
        (eo
        ∙ ap (λ x. replaced out (k * (m + 1)) (m + 1) x)
        (encrypted_cong (size_of p.modulus) m (q_pos g.ready) (take m (drop (k * m) masks)) s' s' (e k) (e k) (pos v) (s (k / p.level_count) *ℤ pos (weight (basis_in p) (k % p.level_count)))
        (λ i u. cong_refl (size_of p.modulus) (s' i)) (cong_refl (size_of p.modulus) (e k))
        (cong_trans (modulo_stands (q_pos g.ready) (pos w *ℤ pos (get_or weights (k % p.level_count) 0)) ev)
        (cong_mul (modulo_stands (q_pos g.ready) (s (k / p.level_count)) ew) (cong_of_eq (size_of p.modulus) (ap pos (g.weighted (k % p.level_count) (mod-lt k levels-some)).1))))))

-- ---- 12: the masks counted by the errors

pub lent : (masks errors n L m : ℕ) → (length_fails errors (n * L) || length_fails masks (errors * m)) ≡ (length_fails errors (n * L) || length_fails masks (n * L * m))
lent masks errors n L m = go (eqb errors (n * L)) refl
  where
    go : (b : Bool) → eqb errors (n * L) ≡ b → (not b || length_fails masks (errors * m)) ≡ (not b || length_fails masks (n * L * m))
    go true e = ap (λ k. length_fails masks (k * m)) (eqb-true errors (n * L) e)
    go false e = refl

-- ---- what the checks of a generation leave

-- the weights as words
weights_are : (b : ApproxSignedBasis) {p : PreparedBasis} → p ≡ prepared_by b → Ready p → {weights : List ℕ} → weights ≡ tabulate 16 (weight_word b)
    → (j : ℕ) → j < p.level_count → (j < 16) × (get_or weights j 0 ≡ weight (basis_in p) j)
weights_are b {p} ep r e j h =
    let f : j < 16 = few p.level_count p.log_basis (basis_in p).bits h r.sound.levels-within r.sound.bits-within r.sound.log_least in
    (f, ap (λ l. get_or l j 0) e ∙ get_d_tabulate 16 (weight_word b) j f ∙ plain (subst (λ x. j < x.level_count) ep h) ∙ ap (λ x. weight (basis_in x) j % 2 ^ 32) (sym ep) ∙ mod-eq_of_lt below)
  where
    few : (L log k : ℕ) → j < L → L * log ≤ k → k ≤ 32 → 2 ≤ log → j < 16
    few L log k g a c d = omega (arith, mul-le-mul {n₁ = suc j} {m₁ = 2} {n₂ = L} {m₂ = log} g d)

    plain : j < b.level_count.0 → weight_word b j ≡ weight (basis b) j % 2 ^ 32
    plain k = rw (lt-ltb j b.level_count.0 k)

    below : weight (basis_in p) j < 2 ^ 32
    below = omega (arith, weight-below (basis_in p) r.sound.accepted j h, r.sound.accepted.covered, pow_mono {i = (basis_in p).bits} {j = 32} r.sound.bits-within)

-- what the loop asks, with the numbers at hand; and that it writes the key of the parameters
module _ {P : LweKeySwitchingParameters} {p : PreparedBasis} {masks : List ℕ} {errors : Errors} {room : ℕ} (g : Generable P masks errors room)
    (r : Ready p × (p ≡ prepared_by P.basis)) {m : ℕ} (em : m ≡ m_in P) where
  pub entering : {weights : List ℕ} → weights ≡ tabulate 16 (weight_word P.basis) → Entering p weights m masks (error_count errors) room
  entering ew =
      record {
        ready = r.0;
        weighted = weights_are P.basis r.1 r.0 ew;
        fits = g.fits ∙ ap₂ (λ (k m : ℕ). k * (m + 1)) (sym g.errored) (sym em);
        masked = g.masked ∙ ap₂ ◌*◌ (sym g.errored) (sym em);
      }

  pub entered_end : (s s' : ℕ → ℤ) {out₀ out : List ℕ} {k : ℕ} → Entered p m s s' (error_at (size_of p.modulus) errors) masks (error_count errors) out₀ out k → error_count errors ≤ k
      → out ≡ generated (basis P.basis) (n_in P) (m_in P) s s' (error_at (q_in P) errors) masks
  unfolding generated
  entered_end s s' f h =
      filling_end f h ∙ ap (λ k. rows_of k (generated_entry (basis_in p) m s s' (error_at (size_of p.modulus) errors) masks)) g.errored
      ∙ ap₂ (λ x m. rows_of (n_in P * levels_in P) (generated_entry (basis_in x) m s s' (error_at (size_of x.modulus) errors) masks)) r.1 em

-- no number applies
pub record Unrefused (P : LweKeySwitchingParameters) (E : ℕ) (key : Key) (s' masks : List ℕ) (errors : Errors) (room : ℕ) : Type 0 where
  pub none : refusal (generate_rows P E key s' masks errors room) ≡ 0

pub generable : {P : LweKeySwitchingParameters} {E : ℕ} {key : Key} {s' masks : List ℕ} {errors : Errors} {room : ℕ}
    → Unrefused P E key s' masks errors room → Generable P masks errors room
generable {P} {E} {key} {s'} {masks} {errors} {room} u =
    let no = passed (generate_rows P E key s' masks errors room) u.none in
    let twelve = neither (length_fails (length masks) (n_in P * levels_in P * m_in P)) (length_fails (error_count errors) (n_in P * levels_in P)) (no 12 tt) in
    record {
      accepted = (judged P _ u.none).accepted;
      fits = length_ok _ _ (no 11 tt);
      masked = length_ok _ _ twelve.0;
      errored = length_ok _ _ twelve.1;
    }
