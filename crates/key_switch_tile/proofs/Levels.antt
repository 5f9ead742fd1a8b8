-- The loop over the rows of a level.
-- Assumes nothing.
use mathlib.Core.Path.{◌≡◌, refl, sym, ◌∙◌, ap}
use mathlib.Core.Logic.{◌≢◌}
use mathlib.Core.List.{List, ◌++◌, map}
use Prim.Native.Nat.{ℕ, ◌+◌, ◌*◌, ◌-◌, ◌<◌, ◌≤◌}
use native.Mathlib.Omega.{arith}
use native.Mathlib.Decide.{ℕ_discrete}
use lib.ListN.{length, get_or, set, take, drop, length-drop, length-set}
use lib.Seq.{length-take-le, get_or-take, get_or-drop, get_or-set_same, get_or-set_other}
use Rattle.std.proofs.lemmas.List.{map-append, take-map, drop-map}
use Rattle.scheme.proofs.Rows.{row_within}
use Rattle.gadget_digits.specs.declared.SignedDecomposer.{SignedDecomposer}
use Rattle.gadget_digits.specs.declared.Step.{Step}
use Rattle.gadget_digits.specs.Step.{step_of}
use Rattle.key_switch_tile.specs.Rows.{Spare, Less}
use Rattle.key_switch_tile.specs.Tile.{tile, lane, LevelRoom, RowLess}
use Rattle.key_switch_tile.proofs.Replaced.{replaced_in, replaced-length, row_other}

-- the numbers of a part of w accumulators, and of the accumulators with that part replaced
module _ {W : Type 0} (number : W → ℕ) (raw : List W) (at w : ℕ) where
  width_is : at + w - at ≡ w
  width_is = omega arith

  pub number_part : map number (take (at + w - at) (drop at raw)) ≡ take w (drop at (map number raw))
  number_part = rw (width_is, drop-map number at raw, take-map number w (drop at raw)) refl

  pub number_new : (row : List W) → map number (take at raw ++ (row ++ drop (at + w - at) (drop at raw))) ≡ take at (map number raw) ++ (map number row ++ drop w (drop at (map number raw)))
  number_new row =
      rw (width_is, map-append number (take at raw) (row ++ drop w (drop at raw)), map-append number row (drop w (drop at raw)), take-map number at raw, drop-map number at raw, drop-map number w (drop at raw))
      refl

-- an entry of w words, and rows of w accumulators
pub record Level (w rows : ℕ) (lanes : List SignedDecomposer) (entry acc : List ℕ) : Type 0 where
  pub few : rows ≤ tile
  pub count : length lanes ≡ tile
  pub wide : length entry ≡ w
  pub sized : length acc ≡ rows * w

-- the rows below t are done
pub record Rowing (q grow w rows : ℕ) (entry : List ℕ) (lanes₀ : List SignedDecomposer) (acc₀ : List ℕ) (lanes : List SignedDecomposer) (acc : List ℕ) (t : ℕ) : Type 0 where
  pub asks : Level w rows lanes₀ entry acc₀
  pub same : length acc ≡ length acc₀
  pub count : length lanes ≡ tile
  pub less : (u : ℕ) → u < t → RowLess q grow w (step_of (lane lanes₀ u)).digit entry acc₀ acc u
  pub moved : (u : ℕ) → u < t → lane lanes u ≡ (step_of (lane lanes₀ u)).next
  pub kept : (u c : ℕ) → t ≤ u → c < w → get_or acc (u * w + c) 0 ≡ get_or acc₀ (u * w + c) 0
  pub waits : (u : ℕ) → t ≤ u → lane lanes u ≡ lane lanes₀ u

pub rowing_start : {w rows : ℕ} {entry : List ℕ} {lanes : List SignedDecomposer} {acc : List ℕ} (q grow : ℕ) → Level w rows lanes entry acc → Rowing q grow w rows entry lanes acc lanes acc 0
rowing_start q grow p =
    record {
      asks = p;
      same = refl;
      count = p.count;
      less = λ u h. absurd (omega arith);
      moved = λ u h. absurd (omega arith);
      kept = λ u c h k. refl;
      waits = λ u h. refl;
    }

module _ {q grow w rows : ℕ} {entry : List ℕ} {lanes₀ : List SignedDecomposer} {acc₀ : List ℕ} {lanes : List SignedDecomposer} {acc : List ℕ} {t : ℕ} (g : Rowing q grow w rows entry lanes₀ acc₀ lanes acc t) where
  module _ (h : t < rows) where
    pub inside : t * w + w ≤ length acc
    inside = omega (arith, g.same, g.asks.sized, row_within w rows t h)

    pub in_lanes : t < length lanes
    in_lanes = omega (arith, g.count, g.asks.few)

    part : List ℕ
    part = take w (drop (t * w) acc)

    part_sized : length part ≡ w
    unfolding part
    part_sized = length-take-le w (drop (t * w) acc) (omega (arith, length-drop (t * w) acc, inside))

    part_at : (c : ℕ) → c < w → get_or part c 0 ≡ get_or acc₀ (t * w + c) 0
    unfolding part
    part_at c k =
        get_or-take w (drop (t * w) acc) c 0 k ∙ get_or-drop (t * w) acc c 0 ∙ g.kept t c (omega arith) k

    module _ {s : Step} (es : s ≡ step_of (lane lanes t)) where
      step_is : s ≡ step_of (lane lanes₀ t)
      step_is = es ∙ ap step_of (g.waits t (omega arith))

      pub row_asks : {half : ℕ} → LevelRoom q half grow w rows lanes₀ entry acc₀ → Spare q half grow s.digit (take w (drop (t * w) acc)) entry
      unfolding part
      row_asks r =
          record {
            same = part_sized ∙ sym g.asks.wide;
            entries = r.entries;
            digit = rw (ap (λ x. x.digit) step_is) (r.digits t h);
            room = λ c k.
                let k' : c < w = omega (arith, part_sized) in
                rw (part_at c k') (r.room t c h k');
          }

      module _ {row : List ℕ} (r : Less q grow s.digit entry (take w (drop (t * w) acc)) row) where
        new : List ℕ
        new = take (t * w) acc ++ (row ++ drop w (drop (t * w) acc))

        rowed : Less q grow (step_of (lane lanes₀ t)).digit entry part row
        unfolding part
        rowed = rw (ap (λ x. x.digit) step_is) at r

        row_sized : length row ≡ w
        row_sized = rowed.same ∙ part_sized

        here : (c : ℕ) → c < w → get_or new (t * w + c) 0 ≡ get_or row c 0
        unfolding new
        here c k = replaced_in acc row (t * w) w inside row_sized c k

        other : (u c : ℕ) → u ≢ t → c < w → get_or new (u * w + c) 0 ≡ get_or acc (u * w + c) 0
        unfolding new
        other u c ne k = row_other acc row w t inside row_sized u c ne k

        new_length : length new ≡ length acc₀
        unfolding new
        new_length = replaced-length acc row (t * w) w inside row_sized ∙ g.same

        less_here : RowLess q grow w (step_of (lane lanes₀ t)).digit entry acc₀ new t
        less_here =
            record {
              word = λ c k.
                  let k' : c < length part = omega (arith, part_sized) in
                  rw (here c k, ← part_at c k) (rowed.word c k');
              most = λ c k.
                  let k' : c < length part = omega (arith, part_sized) in
                  rw (here c k, ← part_at c k) (rowed.most c k');
            }

        less_other : (u : ℕ) → u < t → RowLess q grow w (step_of (lane lanes₀ u)).digit entry acc₀ new u
        less_other u k =
            record {
              word = λ c m. rw (other u c (omega arith) m) ((g.less u k).word c m);
              most = λ c m. rw (other u c (omega arith) m) ((g.less u k).most c m);
            }

        less_new : (u : ℕ) → u < t + 1 → RowLess q grow w (step_of (lane lanes₀ u)).digit entry acc₀ new u
        less_new u k = go (ℕ_discrete u t)
          where
            go : Dec (u ≡ t) → RowLess q grow w (step_of (lane lanes₀ u)).digit entry acc₀ new u
            go (yes e) = rw e less_here
            go (no e) = less_other u (omega arith)

        moved_new : (u : ℕ) → u < t + 1 → lane (set lanes t s.next) u ≡ (step_of (lane lanes₀ u)).next
        moved_new u k = go (ℕ_discrete u t)
          where
            go : Dec (u ≡ t) → lane (set lanes t s.next) u ≡ (step_of (lane lanes₀ u)).next
            go (yes e) = rw e (get_or-set_same lanes t s.next _ in_lanes ∙ ap (λ x. x.next) step_is)
            go (no e) = get_or-set_other lanes t u s.next _ e ∙ g.moved u (omega arith)

        pub rowing_on : Rowing q grow w rows entry lanes₀ acc₀ (set lanes t s.next) (take (t * w) acc ++ (row ++ drop w (drop (t * w) acc))) (t + 1)
        unfolding new
        rowing_on =
            record {
              asks = g.asks;
              same = new_length;
              count = length-set lanes t s.next ∙ g.count;
              less = less_new;
              moved = moved_new;
              kept = λ u c k m. other u c (omega arith) m ∙ g.kept u c (omega arith) m;
              waits = λ u k. get_or-set_other lanes t u s.next _ (λ e. omega arith) ∙ g.waits u (omega arith);
            }
