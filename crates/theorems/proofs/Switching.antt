-- Switching with a key that `generate` wrote. That an explicit modulus is a word of 32 bits is what its type says.
--     switch_phase         one switch: output phase = input phase + error modulo q, and the error is within the stated bound
--     batch_switch_phase   the same of row t of a batch, whatever the other rows hold
--     taken_cong           s taken as the bound takes it agrees with s modulo q, and a word so taken is the nearer to zero: taken_least
-- The laws behind them speak of the definitions, where the calls have no refusal.
-- Assumes nothing.
use mathlib.Core.Path.{◌≡◌, sym}
use mathlib.Core.List.{List, ◌++◌}
use Prim.Native.Nat.{ℕ, ◌+◌, ◌*◌, ◌/◌, ◌<◌, ◌≤◌}
use native.Mathlib.Omega.{arith}
use lib.IntN.{pos, nat_abs, ◌-ℤ◌}
use lib.ListN.{length, get_or}
use Rattle.std.proofs.Common.{Ok}
use Rattle.scheme.specs.Modulus.{Fits}
use Rattle.scheme.specs.Numbers.{Cong}
use Rattle.scheme.specs.Basis.{Basis, Accepted}
use Rattle.scheme.specs.Lwe.{Key, Words, Signed, secret_of, words, signed, row_of, Errors, error_count, error_values, error_at}
use Rattle.scheme.specs.Switch.{switched, switched_batch, generated}
use Rattle.scheme.specs.Checks.{Check, refusal, length_fails}
use Rattle.scheme.proofs.Residue.{cong_refl}
use Rattle.scheme.proofs.Checks.{length_ok, magnitudes_ok}
use Rattle.scheme.proofs.Order.{passed, neither}
use Rattle.scheme.proofs.Switch.{row_below, batch_row}
use Rattle.scheme.proofs.Nearest.{nearest_cong, nearest-least, error_length}
use Rattle.scheme.proofs.Phase.{phase-switched, phase_taken_as}
use Rattle.scheme.proofs.Bound.{switch_bound_lem}
use Rattle.primus_reduce.specs.Ring.{meant}
use Rattle.primus_decompose.specs.Answers.{basis}
use Rattle.gadget_constants.proofs.Sound.{sound-basis}
use Rattle.lwe_tag.specs.declared.LweTag.{LweTag}
use Rattle.key_switch_parameters.specs.declared.LweKeySwitchingParameters.{LweKeySwitchingParameters}
use Rattle.key_switch_parameters.specs.Answers.{q_in, n_in, m_in, levels_in, parameter_rows}
use Rattle.key_switch_entries.specs.Answers.{generate_rows}
use Rattle.key_switch_key.specs.Answers.{Generates}
use Rattle.key_switch_parameters.proofs.Passed.{judged}
use Rattle.key_switch.specs.Answers.{batch_rows, Switches, SwitchesBatch}
use Rattle.key_switch.proofs.Passed.{one_passed, batch_passed}
use Rattle.theorems.specs.Switched.{taken_as, Switched}
use Rattle.theorems.proofs.Calls.{wrote, written}

-- of w and w − q it is the nearer to zero
pub taken_least : (q : ℕ) (s : List ℕ) (i : ℕ) → get_or s i 0 ≤ q
    → (nat_abs (taken_as q (Words s) i) ≤ get_or s i 0) × (nat_abs (taken_as q (Words s) i) ≤ nat_abs (pos (get_or s i 0) -ℤ pos q))
taken_least q s i = nearest-least q (get_or s i 0)

-- and s so taken agrees with s modulo q
pub taken_cong : (q : ℕ) (key : Key) (i : ℕ) → Cong q (secret_of key i) (taken_as q key i)
taken_cong q (Words s) i = nearest_cong q (get_or s i 0)
taken_cong q (Signed s) i = cong_refl q (signed s i)

-- a call whose parameters pass has an accepted basis
pub basis-accepted : (P : LweKeySwitchingParameters) → Fits 32 (meant P.basis.modulus) → (more : List Check) → refusal (parameter_rows P ++ more) ≡ 0
    → Accepted (basis P.basis)
basis-accepted P word more e =
    (sound-basis P.basis.modulus P.basis.log_basis.0 P.basis.level_count.0 word (judged P more e).accepted).accepted

module _ (P : LweKeySwitchingParameters) (word : Fits 32 (meant P.basis.modulus)) (E : ℕ) (key : Key) (s' masks : List ℕ) (errors : Errors) where
  abbrev b : Basis
  b = basis P.basis

  abbrev made : List ℕ
  made = generated b (n_in P) (m_in P) (secret_of key) (words s') (error_at (q_in P) errors) masks

  -- lent masks and errors of an accepted generation
  pub lent_masks : (room : ℕ) → refusal (generate_rows P E key s' masks errors room) ≡ 0 → length masks ≡ n_in P * levels_in P * m_in P
  lent_masks room e =
      length_ok _ _ (neither (length_fails (length masks) (n_in P * levels_in P * m_in P)) (length_fails (error_count errors) (n_in P * levels_in P))
      (passed (generate_rows P E key s' masks errors room) e 12 tt)).0

  lent_errors : (room : ℕ) → refusal (generate_rows P E key s' masks errors room) ≡ 0 → (k : ℕ) → k < n_in P * levels_in P → nat_abs (error_at (q_in P) errors k) ≤ E
  lent_errors room e k h =
      let no = passed (generate_rows P E key s' masks errors room) e in
      let l : error_count errors ≡ n_in P * levels_in P = length_ok _ _ (neither (length_fails (length masks) (n_in P * levels_in P * m_in P)) (length_fails (error_count errors) (n_in P * levels_in P)) (no 12 tt)).1 in
      omega (arith, magnitudes_ok (E + 1) (error_values (q_in P) errors) (no 15 tt) k (omega (arith, error_length (q_in P) errors)))

  -- one ciphertext of words below q
  pub switched-accepted : (room : ℕ) → refusal (generate_rows P E key s' masks errors room) ≡ 0 → (x : List ℕ) → ((i : ℕ) → i < n_in P → get_or x i 0 < q_in P)
      → Switched b (n_in P) (m_in P) key s' errors E x (switched b (n_in P) (m_in P) made x)
  switched-accepted room e x below =
      let ok = basis-accepted P word _ e in
      let l = lent_masks room e in
      record {
        phase = phase-switched b ok (n_in P) (m_in P) (secret_of key) (words s') (error_at (q_in P) errors) masks l x below;
        nearer = phase_taken_as b ok (n_in P) (m_in P) (secret_of key) (words s') (error_at (q_in P) errors) masks l x below (taken_as (q_in P) key) (λ i h. taken_cong (q_in P) key i);
        bounded = switch_bound_lem b ok (n_in P) (taken_as (q_in P) key) (error_at (q_in P) errors) x E (lent_errors room e);
      }

  pub batch_switched-accepted : (room : ℕ) → refusal (generate_rows P E key s' masks errors room) ≡ 0
      → (X : List ℕ) (gs : List LweTag) (out : ℕ) → refusal (batch_rows P made X gs out) ≡ 0 → (t : ℕ) → t < length X / (n_in P + 1)
      → Switched b (n_in P) (m_in P) key s' errors E (row_of (n_in P) X t) (row_of (m_in P) (switched_batch b (n_in P) (m_in P) made (length X / (n_in P + 1)) X) t)
  batch_switched-accepted room e X gs out f t h =
      let x = batch_passed {P = P} {key = made} {input = X} {room = out} gs (sym f) in
      rw (batch_row b (n_in P) (m_in P) made (length X / (n_in P + 1)) X t h)
      (switched-accepted room e (row_of (n_in P) X t) (λ i k. row_below (q_in P) (n_in P) (length X / (n_in P + 1)) X t h x.inputs x.words i (omega arith)))

  module _ {blank k : List ℕ} (c : Generates P E key s' masks errors blank 0 k) where
    pub switch_phase : {x before after : List ℕ} {g tag : LweTag} → Switches P k x g before (Ok tag) after → Switched (basis P.basis) (n_in P) (m_in P) key s' errors E x after
    switch_phase {x} {before} {after} {g} d =
        let made-it = wrote c.writes in
        let w = written d.writes in
        let o = one_passed {P = P} {key = k} {input = x} {room = length before} g (sym w.0) in
        rw (w.1, made-it.1) (switched-accepted (length blank) made-it.0 x (λ i h. o.words i (omega (arith, o.inputs))))

    pub batch_switch_phase : {X before after : List ℕ} {gs hs : List LweTag} → SwitchesBatch P k X gs before 0 hs after → (t : ℕ) → t < length X / (n_in P + 1)
        → Switched (basis P.basis) (n_in P) (m_in P) key s' errors E (row_of (n_in P) X t) (row_of (m_in P) after t)
    batch_switch_phase {X} {before} {after} {gs} d =
        let made-it = wrote c.writes in
        let w = wrote d.writes in
        rw (w.1, made-it.1) (batch_switched-accepted (length blank) made-it.0 X gs (length before) (rw made-it.1 at w.0))
