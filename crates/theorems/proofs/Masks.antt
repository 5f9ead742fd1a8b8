-- Every choice of the key's masks, and when two outputs agree under each of them. That an explicit modulus is a word of 32 bits is what its type says.
--     generate_any_masks   once `generate` accepts one list of masks it accepts every list of as many words below q
--     batch_any_masks      a batch that is accepted with one key is accepted with the key generated from any masks below q
--     every_choice         so for each such list both calls write: a key, and an output for each of two batches
--     demand_3_of_calls    the outputs are equal in every word for every choice exactly when bodies and readings are
-- Assumes nothing.
use mathlib.Core.Path.{◌≡◌, refl, sym, ap₂, ◌∙◌}
use mathlib.Core.Bool.{Bool, false, ◌||◌}
use mathlib.Core.Logic.{◌↔◌}
use mathlib.Core.List.{List, [], ◌∷◌, ◌++◌}
use Prim.Native.Nat.{ℕ, ◌+◌, ◌*◌, ◌/◌, ◌<◌}
use native.Mathlib.Omega.{arith}
use lib.Pow.{pow_pos}
use lib.IntN.{ℤ}
use lib.ListN.{length}
use Rattle.scheme.specs.Modulus.{Fits}
use Rattle.scheme.specs.Basis.{Basis}
use Rattle.scheme.specs.Lwe.{Key, secret_of, key_length, words, row_of, Errors, error_count, error_values, error_at}
use Rattle.scheme.specs.Switch.{Below, switched_batch, generated, OutputsAgree, ReadingsAgree, Demand3}
use Rattle.scheme.specs.Checks.{row, refusal, key_fails, length_fails, words_fail, error_limit_fails, error_words_fail, errors_fail}
use Rattle.scheme.proofs.Checks.{words_ok}
use Rattle.scheme.proofs.Order.{passed, neither, done}
use Rattle.scheme.proofs.Switch.{generated-length, generated-below}
use Rattle.scheme.proofs.Same.{demand_3}
use Rattle.primus_reduce.specs.Ring.{meant}
use Rattle.primus_decompose.specs.Answers.{basis}
use Rattle.lwe_tag.specs.declared.LweTag.{LweTag}
use Rattle.lwe_tag.specs.Answers.{switched_tags}
use Rattle.key_switch_parameters.specs.declared.LweKeySwitchingParameters.{LweKeySwitchingParameters}
use Rattle.key_switch_parameters.specs.Answers.{q_in, n_in, m_in, levels_in, key_words, parameter_rows}
use Rattle.key_switch_entries.specs.Answers.{generate_rows}
use Rattle.key_switch_key.specs.Answers.{Generates}
use Rattle.key_switch_parameters.proofs.Passed.{judged}
use Rattle.key_switch.specs.Answers.{batch_rows, SwitchesBatch}
use Rattle.key_switch.proofs.Passed.{batch_passed}
use Rattle.theorems.specs.Choices.{EqualOutputs, Choice}
use Rattle.theorems.proofs.Calls.{wrote, words_fit, length_fit}
use Rattle.theorems.proofs.Inputs.{inputs-accepted}
use Rattle.theorems.proofs.Switching.{basis-accepted, lent_masks}

-- of 14 over errors, both keys and masks: the masks
masks_of : (es key s masks : Bool) → (((masks || s) || key) || es) ≡ false → masks ≡ false
masks_of es key s masks e = (neither s masks (neither key (masks || s) (neither es ((masks || s) || key) e).1).1).1

pub generate_any_masks : (P : LweKeySwitchingParameters) (E : ℕ) (key : Key) (s' masks others : List ℕ) (errors : Errors) (room : ℕ)
    → length others ≡ n_in P * levels_in P * m_in P → Below (q_in P) others
    → refusal (generate_rows P E key s' masks errors room) ≡ 0 → refusal (generate_rows P E key s' others errors room) ≡ 0
generate_any_masks P E key s' masks others errors room l w e =
    let q = q_in P in
    let no = passed (generate_rows P E key s' masks errors room) e in
    let lent = neither (length_fails (length masks) (n_in P * levels_in P * m_in P)) (length_fails (error_count errors) (n_in P * levels_in P)) (no 12 tt) in
    let below = masks_of (error_words_fail q errors) (key_fails q key) (words_fail q s') (words_fail q masks) (no 14 tt) in
    ap₂ (λ long foreign.
    refusal (parameter_rows P
    ++ row (length_fails (key_length key) (n_in P)) 9
    ∷ row (length_fails (length s') (m_in P)) 9
    ∷ row (length_fails room (key_words P)) 11
    ∷ row long 12
    ∷ row (length_fails (error_count errors) (n_in P * levels_in P)) 12
    ∷ row (error_limit_fails q E) 13
    ∷ row (error_words_fail q errors) 14
    ∷ row (key_fails q key) 14
    ∷ row (words_fail q s') 14
    ∷ row foreign 14
    ∷ row (errors_fail E (error_values (q_in P) errors)) 15
    ∷ []))
    (length_fit (length others) _ l ∙ sym lent.0) (words_fit q others w ∙ sym below)
    ∙ e

module _ (P : LweKeySwitchingParameters) (word : Fits 32 (meant P.basis.modulus)) where
  abbrev b : Basis
  b = basis P.basis

  -- the rows of a batch
  abbrev count : List ℕ → ℕ
  count X = length X / (n_in P + 1)

  pub batch_any_masks : (s s' e : ℕ → ℤ) (masks key X : List ℕ) (gs : List LweTag) (room : ℕ) → length masks ≡ n_in P * levels_in P * m_in P → Below (q_in P) masks
      → refusal (batch_rows P key X gs room) ≡ 0 → refusal (batch_rows P (generated (basis P.basis) (n_in P) (m_in P) s s' e masks) X gs room) ≡ 0
  batch_any_masks s s' e masks key X gs room l w ex =
      let made = generated b (n_in P) (m_in P) s s' e masks in
      let q : 0 < q_in P = omega (arith, (basis-accepted P word _ ex).fits, pow_pos P.basis.log_basis.0) in
      let no = passed (batch_rows P key X gs room) ex in
      inputs-accepted P key X gs room ex (length_fit _ _ (generated-length b (n_in P) (m_in P) s s' e masks l)) (no 10 tt) (no 11 tt) (no 12 tt)
      (words_fit (q_in P) made (generated-below b (n_in P) (m_in P) s s' e masks l q w))
      (neither (words_fail (q_in P) key) (words_fail (q_in P) X) (no 14 tt)).1 (no 17 tt)

  -- the same over the definitions, for batches that are accepted with any keys
  pub demand_3_accepted : (s s' e : ℕ → ℤ) (keyX X : List ℕ) (gX : List LweTag) (roomX : ℕ) (keyY Y : List ℕ) (gY : List LweTag) (roomY : ℕ)
      → refusal (batch_rows P keyX X gX roomX) ≡ 0 → refusal (batch_rows P keyY Y gY roomY) ≡ 0
      → (t u : ℕ) → t < length X / (n_in P + 1) → u < length Y / (n_in P + 1)
      → Demand3 (basis P.basis) (n_in P) (m_in P) s s' e (length X / (n_in P + 1)) X t (length Y / (n_in P + 1)) Y u
  demand_3_accepted s s' e keyX X gX roomX keyY Y gY roomY ex ey t u ht hu =
      let x = batch_passed {P = P} {key = keyX} {input = X} {room = roomX} gX (sym ex) in
      let y = batch_passed {P = P} {key = keyY} {input = Y} {room = roomY} gY (sym ey) in
      demand_3 b (basis-accepted P word _ ex) (n_in P) (m_in P) s s' e (omega (arith, (judged P _ ex).output_some)) (count X) X t (count Y) Y u x.inputs y.inputs x.words y.words ht hu

  module _ (E : ℕ) (key : Key) (s' : List ℕ) (errors : Errors) {one over k keyX X overX x keyY Y overY y : List ℕ} {gX gY : List LweTag}
      (generates : Generates P E key s' one errors over 0 k) (switches_x : SwitchesBatch P keyX X gX overX 0 (switched_tags gX) x)
      (switches_y : SwitchesBatch P keyY Y gY overY 0 (switched_tags gY) y) where
    abbrev made : List ℕ → List ℕ
    made masks = generated b (n_in P) (m_in P) (secret_of key) (words s') (error_at (q_in P) errors) masks

    -- what the batch call leaves with another key, where this one is accepted
    again : (masks keyZ Z overZ z : List ℕ) (gZ : List LweTag) → length masks ≡ n_in P * levels_in P * m_in P → Below (q_in P) masks
        → SwitchesBatch P keyZ Z gZ overZ 0 (switched_tags gZ) z
        → SwitchesBatch P (made masks) Z gZ overZ 0 (switched_tags gZ) (switched_batch b (n_in P) (m_in P) (made masks) (count Z) Z)
    again masks keyZ Z overZ z gZ l w s =
        let ok = batch_any_masks (secret_of key) (words s') (error_at (q_in P) errors) masks keyZ Z gZ (length overZ) l w (wrote s.writes).0 in
        record { writes = done ok refl; keeps = done ok refl }

    pub every_choice : (masks : List ℕ) → length masks ≡ n_in P * levels_in P * m_in P → Below (q_in P) masks → Choice P E key s' errors over X gX overX Y gY overY masks
    every_choice masks l w =
        record {
          k = made masks;
          x = switched_batch b (n_in P) (m_in P) (made masks) (count X) X;
          y = switched_batch b (n_in P) (m_in P) (made masks) (count Y) Y;
          generates = record { writes = done (generate_any_masks P E key s' one masks errors (length over) l w (wrote generates.writes).0) refl };
          switches_x = again masks keyX X overX x gX l w switches_x;
          switches_y = again masks keyY Y overY y gY l w switches_y;
        }

    module _ (t u : ℕ) (ht : t < length X / (n_in P + 1)) (hu : u < length Y / (n_in P + 1)) where
      by_definition : Demand3 b (n_in P) (m_in P) (secret_of key) (words s') (error_at (q_in P) errors) (count X) X t (count Y) Y u
      by_definition =
          demand_3_accepted (secret_of key) (words s') (error_at (q_in P) errors) keyX X gX (length overX) keyY Y gY (length overY) (wrote switches_x.writes).0 (wrote switches_y.writes).0 t u ht hu

      there : EqualOutputs P E key s' errors over X gX overX t Y gY overY u → OutputsAgree b (n_in P) (m_in P) (secret_of key) (words s') (error_at (q_in P) errors) (count X) X t (count Y) Y u
      unfolding OutputsAgree every_choice
      there f masks l w = let o = every_choice masks l w in f masks o.k o.x o.y o.generates o.switches_x o.switches_y

      back : OutputsAgree b (n_in P) (m_in P) (secret_of key) (words s') (error_at (q_in P) errors) (count X) X t (count Y) Y u → EqualOutputs P E key s' errors over X gX overX t Y gY overY u
      unfolding OutputsAgree
      back f masks k x y g sx sy c h =
          let made-it = wrote g.writes in
          let masked = masks_of (error_words_fail (q_in P) errors) (key_fails (q_in P) key) (words_fail (q_in P) s') (words_fail (q_in P) masks) (passed (generate_rows P E key s' masks errors (length over)) made-it.0 14 tt) in
          rw ((wrote sx.writes).1, (wrote sy.writes).1, made-it.1)
          (f masks (lent_masks P word E key s' masks errors (length over) made-it.0) (words_ok (q_in P) masks masked) c h)

      pub demand_3_of_calls : EqualOutputs P E key s' errors over X gX overX t Y gY overY u ↔ ReadingsAgree (basis P.basis) (n_in P) (row_of (n_in P) X t) (row_of (n_in P) Y u)
      demand_3_of_calls = ((λ f. by_definition.0 (there f)), (λ r. back (by_definition.1 r)))
