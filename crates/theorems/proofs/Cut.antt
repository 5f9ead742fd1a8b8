-- A batch cut in two, so that its rows may be spread over threads and machines.
--     batch_cut       where the whole is accepted and the first part is whole rows, both parts are accepted, and the output and the tags are theirs, one after the other
--     batch_joined    where both parts are accepted, so is the whole, with the same output and tags
--     row_alone       row t of an accepted batch is accepted alone, and its one switch is row t of the output, with the tag at place t
-- Assumes nothing.
use mathlib.Core.Path.{◌≡◌, refl, sym, ap, ap₂, subst, ◌∙◌}
use mathlib.Core.Bool.{Bool, true, false, not}
use mathlib.Core.List.{List, ◌++◌, map-append}
use Prim.Native.Nat.{ℕ, ◌+◌, ◌*◌, ◌/◌, ◌%◌, ◌<◌, ◌≤◌}
use native.Mathlib.Nat.{add-mul, mul-div_cancel, mul-mod_left, mul-add-mod_self_right, mul-add-div_right}
use native.Mathlib.Omega.{arith}
use lib.Dec.{eqb}
use lib.ListN.{length, get_or, take, drop, length-append, length-take, length-drop, get_or-append}
use lib.Seq.{get_or-append-add, drop_at, drop-drop, ext_get_or}
use borrow.Author.Tests.{eq-eqb}
use Rattle.std.proofs.Common.{Result, Ok}
use Rattle.std.proofs.lemmas.List.Folds.{list_any-append, list_any_at}
use Rattle.check_order.specs.declared.refusal.Refusal.{Refusal}
use Rattle.scheme.specs.Basis.{Basis}
use Rattle.scheme.specs.Lwe.{row_of}
use Rattle.scheme.specs.Switch.{Below, switched, switched_batch}
use Rattle.scheme.specs.Checks.{refusal, first_in, batch_fails, words_fail}
use Rattle.scheme.proofs.Checks.{length_ok, words_ok}
use Rattle.scheme.proofs.InPlace.{mapped_at}
use Rattle.scheme.proofs.Order.{passed, neither}
use Rattle.scheme.proofs.Rows.{row_within, rows_ext, rows_split, append-below, part_at, part_length, part_below}
use Rattle.scheme.proofs.Switch.{batch_row}
use Rattle.primus_decompose.specs.Answers.{basis}
use Rattle.scheme.specs.Tally.{Switched}
use Rattle.lwe_tag.specs.declared.LweTag.{LweTag}
use Rattle.lwe_tag.specs.Answers.{carried_of, tag_from, tag_fails, tags_fail, switched_tags}
use Rattle.key_switch_parameters.specs.declared.LweKeySwitchingParameters.{LweKeySwitchingParameters}
use Rattle.key_switch_parameters.specs.Answers.{q_in, n_in, m_in}
use Rattle.key_switch.specs.Answers.{switch_rows, batch_rows, Switches, SwitchesBatch}
use Rattle.key_switch.proofs.Passed.{batch_passed}
use Rattle.theorems.proofs.Calls.{wrote, settled, settled_tag, words_fit, length_fit}
use Rattle.theorems.proofs.Inputs.{inputs-accepted}

-- ---- rows of two lists, one after the other

module _ (n T : ℕ) (X Y : List ℕ) (l : length X ≡ T * (n + 1)) where
  row_first : (t : ℕ) → t < T → row_of n (X ++ Y) t ≡ row_of n X t
  row_first t h =
      ext_get_or 0 (row_of n (X ++ Y) t) (row_of n X t) same
      (λ k m. let i : k < n + 1 = omega (arith, length-take (n + 1) (drop (t * (n + 1)) (X ++ Y))) in
      part_at (n + 1) (X ++ Y) t k i ∙ get_or-append X Y 0 (t * (n + 1) + k) (omega (arith, inside)) ∙ sym (part_at (n + 1) X t k i))
    where
      inside : t * (n + 1) + (n + 1) ≤ T * (n + 1)
      inside = row_within (n + 1) T t h

      same : length (row_of n (X ++ Y) t) ≡ length (row_of n X t)
      same =
          omega (
            arith,
            length-take (n + 1) (drop (t * (n + 1)) (X ++ Y)),
            length-drop (t * (n + 1)) (X ++ Y),
            length-append X Y,
            length-take (n + 1) (drop (t * (n + 1)) X),
            length-drop (t * (n + 1)) X,
            inside,
          )

  row_second : (u : ℕ) → row_of n (X ++ Y) (T + u) ≡ row_of n Y u
  row_second u =
      ap (take (n + 1))
      (ap (λ k. drop k (X ++ Y)) (add-mul T u (n + 1))
      ∙ sym (drop-drop (u * (n + 1)) (T * (n + 1)) (X ++ Y))
      ∙ ap (drop (u * (n + 1))) (drop_at X Y (T * (n + 1)) l))

  pub switched-append : (b : Basis) (m : ℕ) (key : List ℕ) (U : ℕ) → switched_batch b n m key (T + U) (X ++ Y) ≡ switched_batch b n m key T X ++ switched_batch b n m key U Y
  unfolding switched_batch
  switched-append b m key U =
      rows_split T U (λ t. switched b n m key (row_of n (X ++ Y) t))
      ∙ ap₂ ◌++◌ (rows_ext T _ _ (λ t h. ap (switched b n m key) (row_first t h))) (rows_ext U _ _ (λ u h. ap (switched b n m key) (row_second u)))

  -- the second part is whole rows where both are
  counted : (length (X ++ Y) / (n + 1) ≡ T + length Y / (n + 1)) × (length (X ++ Y) % (n + 1) ≡ length Y % (n + 1))
  counted =
      let e : length (X ++ Y) ≡ T * (n + 1) + length Y = length-append X Y ∙ ap (λ k. k + length Y) l in (
        ap (λ k. k / (n + 1)) e ∙ mul-add-div_right (omega arith) T (length Y),
        ap (λ k. k % (n + 1)) e ∙ mul-add-mod_self_right T (n + 1) (length Y),
      )

  first_counted : (length X / (n + 1) ≡ T) × (batch_fails (length X) n ≡ false)
  first_counted = (
    ap (λ k. k / (n + 1)) l ∙ mul-div_cancel T (omega arith),
    ap not (eq-eqb (length X % (n + 1)) 0 (ap (λ k. k % (n + 1)) l ∙ mul-mod_left T (n + 1))),
  )

-- words below q in both lists where they are in the two as one
below_first : (q : ℕ) (X Y : List ℕ) → Below q (X ++ Y) → Below q X
below_first q X Y h i k = subst (λ w. w < q) (get_or-append X Y 0 i k) (h i (omega (arith, length-append X Y)))

below_second : (q : ℕ) (X Y : List ℕ) → Below q (X ++ Y) → Below q Y
below_second q X Y h i k = subst (λ w. w < q) (get_or-append-add X Y i 0) (h (length X + i) (omega (arith, length-append X Y)))

-- ---- tags

tags_joined : (g h : List LweTag) → tags_fail g ≡ false → tags_fail h ≡ false → tags_fail (g ++ h) ≡ false
tags_joined g h a b = list_any-append tag_fails g h ∙ rw (a, b) refl

tags_parted : (g h : List LweTag) → tags_fail (g ++ h) ≡ false → (tags_fail h ≡ false) × (tags_fail g ≡ false)
tags_parted g h e = neither (tags_fail h) (tags_fail g) (sym (list_any-append tag_fails g h) ∙ e)

-- the tag at place t, where past the ends stand z and w
tag_kept : (gs : List LweTag) (z w : LweTag) (t : ℕ) → t < length gs → tags_fail gs ≡ false
    → (tag_fails (get_or gs t z) ≡ false) × (tag_from (Switched (carried_of (get_or gs t z))) ≡ get_or (switched_tags gs) t w)
tag_kept gs z w t h e =
    let below : tag_fails (get_or gs t z) ≡ false = go (tag_fails (get_or gs t z)) refl in
    (below, sym (mapped_at z w (λ g. tag_from (Switched (carried_of g))) gs t h))
  where
    go : (b : Bool) → tag_fails (get_or gs t z) ≡ b → b ≡ false
    go false f = refl
    go true f = sym (list_any_at tag_fails gs t z h f) ∙ e

-- ---- the calls

module _ (P : LweKeySwitchingParameters) (key X Y : List ℕ) (g h : List LweTag) where
  pub parts_accepted : (T : ℕ) → length X ≡ T * (n_in P + 1) → length g ≡ T → (room : ℕ) → refusal (batch_rows P key (X ++ Y) (g ++ h) room) ≡ 0
      → (refusal (batch_rows P key X g (T * (m_in P + 1))) ≡ 0) × (refusal (batch_rows P key Y h (length Y / (n_in P + 1) * (m_in P + 1))) ≡ 0)
  parts_accepted T l k room e =
      let q = q_in P in
      let no = passed (batch_rows P key (X ++ Y) (g ++ h) room) e in
      let (foreign, words) = neither (words_fail q key) (words_fail q (X ++ Y)) (no 14 tt) in
      let below = words_ok q (X ++ Y) words in
      let first = first_counted (n_in P) T X Y l in
      let both = counted (n_in P) T X Y l in
      let tags = tags_parted g h (no 17 tt) in
      let rest : length h ≡ length Y / (n_in P + 1) = omega (arith, k, length-append g h, length_ok _ _ (no 12 tt), both.0) in (
        inputs-accepted P key (X ++ Y) (g ++ h) room e (no 9 tt) first.1 (length_fit _ _ (ap (λ k. k * (m_in P + 1)) (sym first.0)))
            (length_fit _ _ (k ∙ sym first.0)) foreign (words_fit q X (below_first q X Y below)) tags.1,
        inputs-accepted P key (X ++ Y) (g ++ h) room e (no 9 tt) (ap (λ k. not (eqb k 0)) (sym both.1) ∙ no 10 tt)
            (length_fit (length Y / (n_in P + 1) * (m_in P + 1)) _ refl) (length_fit _ _ rest) foreign (words_fit q Y (below_second q X Y below)) tags.0,
      )

  pub whole-accepted : (overX overY : ℕ) → refusal (batch_rows P key X g overX) ≡ 0 → refusal (batch_rows P key Y h overY) ≡ 0
      → refusal (batch_rows P key (X ++ Y) (g ++ h) (overX + overY)) ≡ 0
  whole-accepted overX overY ex ey =
      let q = q_in P in
      let first = passed (batch_rows P key X g overX) ex in
      let no = passed (batch_rows P key Y h overY) ey in
      let x = batch_passed {P = P} {key = key} {input = X} {room = overX} g (sym ex) in
      let y = batch_passed {P = P} {key = key} {input = Y} {room = overY} h (sym ey) in
      let c = counted (n_in P) (length X / (n_in P + 1)) X Y x.inputs in
      inputs-accepted P key Y h overY ey (no 9 tt)
      (ap (λ k. not (eqb k 0)) c.1 ∙ no 10 tt)
      (length_fit _ _ (ap₂ ◌+◌ x.fits y.fits ∙ sym (add-mul (length X / (n_in P + 1)) (length Y / (n_in P + 1)) (m_in P + 1)) ∙ ap (λ k. k * (m_in P + 1)) (sym c.0)))
      (length_fit _ _ (omega (arith, length-append g h, length_ok _ _ (first 12 tt), length_ok _ _ (no 12 tt), c.0)))
      (neither (words_fail q key) (words_fail q Y) (no 14 tt)).0
      (words_fit q (X ++ Y) (append-below q X Y x.words y.words)) (tags_joined g h (first 17 tt) (no 17 tt))

  -- the output of the whole is those of the parts
  pub outputs_joined : (T : ℕ) → length X ≡ T * (n_in P + 1)
      → switched_batch (basis P.basis) (n_in P) (m_in P) key (length (X ++ Y) / (n_in P + 1)) (X ++ Y)
      ≡ switched_batch (basis P.basis) (n_in P) (m_in P) key (length X / (n_in P + 1)) X ++ switched_batch (basis P.basis) (n_in P) (m_in P) key (length Y / (n_in P + 1)) Y
  outputs_joined T l =
      let b = basis P.basis in
      ap (λ k. switched_batch b (n_in P) (m_in P) key k (X ++ Y)) (counted (n_in P) T X Y l).0
      ∙ switched-append (n_in P) T X Y l b (m_in P) key (length Y / (n_in P + 1))
      ∙ ap (λ k. switched_batch b (n_in P) (m_in P) key k X ++ switched_batch b (n_in P) (m_in P) key (length Y / (n_in P + 1)) Y) (sym (first_counted (n_in P) T X Y l).0)

  -- and so are its tags
  gs_joined : switched_tags (g ++ h) ≡ switched_tags g ++ switched_tags h
  gs_joined = map-append _ g h

  module _ {over out overX x overY y : List ℕ} {tags tagsX tagsY : List LweTag} where
    pub batch_cut : (T : ℕ) → length X ≡ T * (n_in P + 1) → length g ≡ T → length overX ≡ T * (m_in P + 1) → length overY ≡ length Y / (n_in P + 1) * (m_in P + 1) → {a c : ℕ}
        → SwitchesBatch P key (X ++ Y) (g ++ h) over 0 tags out → SwitchesBatch P key X g overX a tagsX x → SwitchesBatch P key Y h overY c tagsY y
        → (a ≡ 0) × (c ≡ 0) × (out ≡ x ++ y) × (tags ≡ tagsX ++ tagsY)
    batch_cut T l k lx ly w wx wy =
        let whole = wrote w.writes in
        let parts = parts_accepted T l k (length over) whole.0 in
        let okX : refusal (batch_rows P key X g (length overX)) ≡ 0 = rw lx parts.0 in
        let okY : refusal (batch_rows P key Y h (length overY)) ≡ 0 = rw ly parts.1 in
        let first = settled wx.writes okX in
        let second = settled wy.writes okY in (
          first.0,
          second.0,
          whole.1 ∙ outputs_joined T l ∙ ap₂ ◌++◌ (sym first.1) (sym second.1),
          (wrote w.keeps).1 ∙ gs_joined ∙ ap₂ ◌++◌ (sym (settled wx.keeps okX).1) (sym (settled wy.keeps okY).1),
        )

    pub batch_joined : {r : ℕ} → length over ≡ length overX + length overY
        → SwitchesBatch P key X g overX 0 tagsX x → SwitchesBatch P key Y h overY 0 tagsY y → SwitchesBatch P key (X ++ Y) (g ++ h) over r tags out
        → (r ≡ 0) × (out ≡ x ++ y) × (tags ≡ tagsX ++ tagsY)
    batch_joined l wx wy w =
        let first = wrote wx.writes in
        let second = wrote wy.writes in
        let ok : refusal (batch_rows P key (X ++ Y) (g ++ h) (length over)) ≡ 0 = rw l (whole-accepted (length overX) (length overY) first.0 second.0) in
        let whole = settled w.writes ok in (
          whole.0,
          whole.1
              ∙ outputs_joined (length X / (n_in P + 1)) (batch_passed {P = P} {key = key} {input = X} {room = length overX} g (sym first.0)).inputs
              ∙ ap₂ ◌++◌ (sym first.1) (sym second.1),
          (settled w.keeps ok).1 ∙ gs_joined ∙ ap₂ ◌++◌ (sym (wrote wx.keeps).1) (sym (wrote wy.keeps).1),
        )

-- ---- one row

module _ (P : LweKeySwitchingParameters) (key X : List ℕ) (gs : List LweTag) where
  pub row-accepted : (room t : ℕ) (z : LweTag) → t < length X / (n_in P + 1) → refusal (batch_rows P key X gs room) ≡ 0
      → refusal (switch_rows P key (row_of (n_in P) X t) (get_or gs t z) (m_in P + 1)) ≡ 0
  unfolding refusal first_in
  row-accepted room t z h e =
      let n = n_in P in
      let no = passed (batch_rows P key X gs room) e in
      let (foreign, words) = neither (words_fail (q_in P) key) (words_fail (q_in P) X) (no 14 tt) in
      let x = batch_passed {P = P} {key = key} {input = X} {room = room} gs (sym e) in
      inputs-accepted P key X gs room e (no 9 tt) (length_fit _ _ (part_length (n + 1) (length X / (n + 1)) X t x.inputs h)) (length_fit (m_in P + 1) _ refl)
      refl foreign (words_fit (q_in P) _ (part_below (q_in P) (n + 1) X t x.words))
      (tag_kept gs z z t (omega (arith, length_ok _ _ (no 12 tt), h)) (no 17 tt)).0

  pub row_alone : {over out alone y : List ℕ} {tags : List LweTag} {r : Result LweTag Refusal} → SwitchesBatch P key X gs over 0 tags out → (t : ℕ) (z w : LweTag)
      → t < length X / (n_in P + 1) → length alone ≡ m_in P + 1 → Switches P key (row_of (n_in P) X t) (get_or gs t z) alone r y
      → (r ≡ Ok (get_or tags t w)) × (y ≡ row_of (m_in P) out t)
  row_alone {over} s t z w h l one =
      let whole = wrote s.writes in
      let no = passed (batch_rows P key X gs (length over)) whole.0 in
      let row = settled_tag one.writes (rw l (row-accepted (length over) t z h whole.0)) in (
        row.0 ∙ ap Ok ((tag_kept gs z w t (omega (arith, length_ok _ _ (no 12 tt), h)) (no 17 tt)).1 ∙ ap (λ gs. get_or gs t w) (sym (wrote s.keeps).1)),
        row.1 ∙ sym (ap (λ z. row_of (m_in P) z t) whole.1 ∙ batch_row (basis P.basis) (n_in P) (m_in P) key (length X / (n_in P + 1)) X t h),
      )
