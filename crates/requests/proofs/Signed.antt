-- Errors that are signed numbers are judged as before errors could be words (T-01): of each call's table, the row that judges words of errors never fails,
-- and without it the call gives the same number; lengths and magnitudes are those of the numbers themselves.
-- Assumes nothing.
use mathlib.Core.Path.{◌≡◌, refl, ap, ap₂, ◌∙◌}
use mathlib.Core.Bool.{Bool, true, false, ◌||◌}
use mathlib.Core.List.{List, [], ◌∷◌, ◌++◌}
use Prim.Native.Nat.{ℕ, suc}
use lib.Dec.{eqb}
use lib.IntN.{ℤ}
use lib.ListN.{take, drop}
use Rattle.scheme.specs.Numbers.{pick}
use Rattle.scheme.specs.Lwe.{Key, ErrorNumbers}
use Rattle.scheme.specs.Checks.{Check, row, order, applies, first_in, refusal}
use Rattle.lwe_parameters.specs.declared.parameter.LweEncryptionParameters.{LweEncryptionParameters}
use Rattle.lwe_parameters.specs.declared.parameter.LweParameters.{LweParameters}
use Rattle.lwe_refusals.specs.Rows.{encrypt_rows, message_rows}
use Rattle.lwe_batch_refusals.specs.Rows.{encrypt_batch_rows}
use Rattle.lwe_packed_refusals.specs.Rows.{packed_rows, packed_message_rows}
use Rattle.primus_lwe_public_key.specs.Answers.{generate_rows as public_key_rows, public_rows, public_message_rows}
use Rattle.key_switch_parameters.specs.declared.LweKeySwitchingParameters.{LweKeySwitchingParameters}
use Rattle.key_switch_entries.specs.Answers.{generate_rows}

applies_idle : (xs ys : List Check) (n k : ℕ) → applies (xs ++ (row false n ∷ ys)) k ≡ applies (xs ++ ys) k
applies_idle [] ys n k = go (eqb n k) (applies ys k)
  where
    go : (here a : Bool) → pick here (a || false) a ≡ a
    go true true = refl
    go true false = refl
    go false a = refl
applies_idle (c ∷ cs) ys n k = ap (λ a. pick (eqb c.number k) (a || c.fails) a) (applies_idle cs ys n k)

refusal_idle : (xs ys : List Check) (n : ℕ) → refusal (xs ++ (row false n ∷ ys)) ≡ refusal (xs ++ ys)
unfolding refusal first_in
refusal_idle xs ys n = go order
  where
    go : (ks : List ℕ) → first_in (applies (xs ++ (row false n ∷ ys))) ks ≡ first_in (applies (xs ++ ys)) ks
    go [] = refl
    go (k ∷ ks) = ap₂ (λ a r. pick a k r) (applies_idle xs ys n k) (go ks)

-- row i of a table is one of number 14 that never fails, and without it the call's number is the same
pub record Idle (i : ℕ) (rows : List Check) : Type 0 where
  pub is : rows ≡ take i rows ++ (row false 14 ∷ drop (suc i) rows)
  pub alike : refusal rows ≡ refusal (take i rows ++ drop (suc i) rows)

idle : (i : ℕ) (rows : List Check) → rows ≡ take i rows ++ (row false 14 ∷ drop (suc i) rows) → Idle i rows
idle i rows e = record { is = e; alike = ap refusal e ∙ refusal_idle (take i rows) (drop (suc i) rows) 14 }

-- ---- each call that takes errors

module _ (es : List ℤ) where
  module _ (P : LweEncryptionParameters) where
    pub encrypt_signed : (key : Key) (a : List ℕ) (p room : ℕ) → Idle 7 (encrypt_rows P key a (ErrorNumbers es) p room)
    encrypt_signed key a p room = idle 7 _ refl

    pub packed_signed : (s a ps : List ℕ) (room : ℕ) → Idle 8 (packed_rows P s a (ErrorNumbers es) ps room)
    packed_signed s a ps room = idle 8 _ refl

    pub public_key_signed : (key : Key) (masks : List ℕ) (room : ℕ) → Idle 7 (public_key_rows P key masks (ErrorNumbers es) room)
    public_key_signed key masks room = idle 7 _ refl

    pub public_signed : (key : List ℕ) (rs : List ℤ) (p room : ℕ) → Idle 7 (public_rows P key (ErrorNumbers es) rs p room)
    public_signed key rs p room = idle 7 _ refl

  module _ (P : LweParameters) where
    pub message_signed : (key : Key) (a : List ℕ) (x room : ℕ) → Idle 9 (message_rows P key a (ErrorNumbers es) x room)
    message_signed key a x room = idle 9 _ refl

    pub batch_signed : (key : Key) (masks xs : List ℕ) (room : ℕ) → Idle 9 (encrypt_batch_rows P key masks (ErrorNumbers es) xs room)
    batch_signed key masks xs room = idle 9 _ refl

    pub packed_message_signed : (s a xs : List ℕ) (room : ℕ) → Idle 10 (packed_message_rows P s a (ErrorNumbers es) xs room)
    packed_message_signed s a xs room = idle 10 _ refl

    pub public_message_signed : (key : List ℕ) (rs : List ℤ) (x room : ℕ) → Idle 9 (public_message_rows P key (ErrorNumbers es) rs x room)
    public_message_signed key rs x room = idle 9 _ refl

  pub switching_key_signed : (P : LweKeySwitchingParameters) (E : ℕ) (key : Key) (s' masks : List ℕ) (room : ℕ)
      → Idle 12 (generate_rows P E key s' masks (ErrorNumbers es) room)
  switching_key_signed P E key s' masks room = idle 12 _ refl
