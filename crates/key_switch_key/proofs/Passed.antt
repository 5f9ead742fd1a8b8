-- What the checks of a key leave.
-- Assumes nothing.
use mathlib.Core.Path.{◌≡◌, refl, sym, subst}
use mathlib.Core.Bool.{Bool, true, false, ◌||◌}
use mathlib.Core.List.{List, []}
use Prim.Native.Nat.{ℕ, suc, ◌+◌, ◌*◌, ◌<◌, ◌≤◌}
use native.Mathlib.Nat.{mul-le-mul_right, suc-mul}
use native.Mathlib.Omega.{arith}
use lib.Arith.{digits_lt}
use lib.Dec.{eqb, leb}
use lib.ListN.{length, take, drop}
use borrow.Author.Tests.{eqb-true, leb-false}
use Rattle.scheme.specs.Numbers.{pick}
use Rattle.scheme.specs.Switch.{entry_number}
use Rattle.scheme.specs.Checks.{refusal}
use Rattle.scheme.proofs.Checks.{length_ok}
use Rattle.scheme.proofs.Order.{passed, neither}
use Rattle.key_switch_parameters.specs.declared.LweKeySwitchingParameters.{LweKeySwitchingParameters}
use Rattle.key_switch_parameters.specs.Answers.{n_in, m_in, levels_in, key_words}
use Rattle.key_switch_parameters.proofs.Passed.{judged}
use Rattle.key_switch_key.specs.Answers.{entry_rows, entry_missing, entry_answer, entry_part}
use Rattle.std.proofs.Common.{Option, None, Some, Result, Ok, Err}
use Rattle.check_order.specs.declared.refusal.Refusal.{Refusal}
use Rattle.check_order.specs.Answer.{refusal_for, answer}
use Rattle.check_order.proofs.Answers.{served}

-- neither place nor level is past the last
present : (n i L j : ℕ) → (leb n i || leb L j) ≡ false → (i < n) × (j < L)
present n i L j h = let e = neither (leb L j) (leb n i) h in (leb-false n i e.1, leb-false L j e.0)

module _ (P : LweKeySwitchingParameters) (len i j : ℕ) (told : 0 ≡ refusal (entry_rows P len)) {n L : ℕ} (en : n ≡ n_in P) (el : L ≡ levels_in P) where
  pub entry_none : (leb n i || leb L j) ≡ true → Ok None ≡ entry_answer P len i j
  entry_none h = served _ _ _ told (rw (← en, ← el, h))

  module _ (h : (leb n i || leb L j) ≡ false) {m : ℕ} (em : m ≡ m_in P) where
    -- no number of its place wraps
    pub entry_within : ((i * L + j) * (m + 1) + (m + 1) ≤ len) × (m ≤ 2048)
    entry_within =
        let g = present n i L j h in
        let k : len ≡ key_words P = length_ok _ _ (passed (entry_rows P len) (sym told) 9 tt) in
        rw (em) (rw (← em) (within n L m g.0 g.1 (rw (en, el, em) k)), (judged P _ (sym told)).output_most)
      where
        within : (n L m : ℕ) → i < n → j < L → len ≡ n * L * (m + 1) → (i * L + j) * (m + 1) + (m + 1) ≤ len
        within n L m a b e =
            let k : suc (i * L + j) * (m + 1) ≤ n * L * (m + 1) = mul-le-mul_right (m + 1) (digits_lt a b) in
            omega (arith, k, suc-mul (i * L + j) (m + 1))

    pub entry_some : Ok (Some ((i * L + j) * (m + 1))) ≡ entry_answer P len i j
    entry_some = served _ _ _ told (rw (← en, ← el, ← em, h))

-- what an answer says: from a place on the key has m + 1 words, which are the entry's; any other answer goes with the empty part
pub record Found (P : LweKeySwitchingParameters) (key : List ℕ) (i j a : ℕ) : Type 0 where
  pub within : a + (m_in P + 1) ≤ length key
  pub narrow : m_in P ≤ 2048
  pub part : take (m_in P + 1) (drop a key) ≡ entry_part P key i j

abbrev pub Told : LweKeySwitchingParameters → List ℕ → ℕ → ℕ → Result (Option ℕ) Refusal → Type 0
Told P key i j (Ok (Some a)) = Found P key i j a
Told P key i j (Ok None) = [] ≡ entry_part P key i j
Told P key i j (Err e) = [] ≡ entry_part P key i j

pub entry_told : (P : LweKeySwitchingParameters) (key : List ℕ) (i j : ℕ) {r : Result (Option ℕ) Refusal} → r ≡ entry_answer P (length key) i j → Told P key i j r
unfolding answer
entry_told P key i j h = subst (Told P key i j) (sym h) (go (eqb (refusal (entry_rows P (length key))) 0) refl (entry_missing P i j) refl)
  where
    go : (b : Bool) → eqb (refusal (entry_rows P (length key))) 0 ≡ b → (c : Bool) → entry_missing P i j ≡ c
        → Told P key i j (pick b (Ok (pick c None (Some (entry_number (levels_in P) i j * (m_in P + 1))))) (Err (refusal_for (refusal (entry_rows P (length key))))))
    go true e false f =
        let w = entry_within P (length key) i j (sym (eqb-true _ 0 e)) refl refl f refl in
        record { within = w.0; narrow = w.1; part = rw (e, f) }
    go true e true f = rw (e, f)
    go false e c f = rw e
