-- The loop over the levels of a place.
-- Assumes nothing.
use mathlib.Core.Path.{◌≡◌, refl, ◌∙◌, ap₂, subst}
use mathlib.Core.List.{List}
use Prim.Native.Nat.{ℕ, suc, ◌+◌, ◌*◌, ◌-◌, ◌^◌, ◌<◌, ◌≤◌}
use native.Mathlib.Omega.{arith}
use native.Mathlib.Nat.{mul-le-mul_right}
use native.Mathlib.Numerals.{add-one}
use lib.IntN.{ℤ, pos, ◌+ℤ◌, ◌-ℤ◌, ◌*ℤ◌}
use lib.ListN.{length, get_or, take, drop, length-drop}
use lib.Seq.{length-take-le, get_or-take, get_or-drop}
use Rattle.scheme.specs.Numbers.{Cong, sum_to}
use Rattle.scheme.specs.Switch.{Below}
use Rattle.scheme.proofs.Integers.{⊖-eq, diff, diffs₃}
use Rattle.scheme.proofs.Residue.{cong_refl, cong_trans, cong_of_eq}
use Rattle.scheme.proofs.Lwe.{cong_sub}
use Rattle.gadget_digits.specs.declared.SignedDecomposer.{SignedDecomposer}
use Rattle.gadget_digits.specs.Step.{step_of}
use Rattle.gadget_digits.specs.Column.{after, step_digit}
use Rattle.gadget_digits.proofs.Columns.{after_none, after_next}
use Rattle.key_switch_tile.specs.Rows.{Near}
use Rattle.key_switch_tile.specs.Tile.{tile, lane, LevelRoom, Leveled}

-- L entries, from `start` on
pub record Place (w rows L start : ℕ) (lanes : List SignedDecomposer) (key acc : List ℕ) : Type 0 where
  pub few : rows ≤ tile
  pub count : length lanes ≡ tile
  pub sized : length acc ≡ rows * w
  pub keyed : start + L * w ≤ length key

pub record Room (q half grow w rows L : ℕ) (lanes : List SignedDecomposer) (key acc : List ℕ) : Type 0 where
  pub keys : Below q key
  pub digits : (t j : ℕ) → t < rows → j < L → Near q half (step_digit (lane lanes t) j)
  pub room : (t c : ℕ) → t < rows → c < w → get_or acc (t * w + c) 0 + L * grow < 2 ^ 64

-- what the first L levels take away from word c, by the digits of the decomposer d
unfoldable pub takes : ℕ → ℕ → ℕ → List ℕ → SignedDecomposer → ℕ → ℤ
takes w L start key d c = sum_to L (λ j. pos (step_digit d j) *ℤ pos (get_or key (start + j * w + c) 0))

pub record Placed (q grow w rows L start : ℕ) (key : List ℕ) (lanes : List SignedDecomposer) (acc acc' : List ℕ)
    : Type 0 where
  pub same : length acc' ≡ length acc
  pub word : (t c : ℕ) → t < rows → c < w
      → Cong q (pos (get_or acc' (t * w + c) 0)) (pos (get_or acc (t * w + c) 0) -ℤ takes w L start key (lane lanes t) c)
  pub most : (t c : ℕ) → t < rows → c < w → get_or acc' (t * w + c) 0 ≤ get_or acc (t * w + c) 0 + L * grow

-- the levels below j are done
pub record Sinking (q grow w rows L start : ℕ) (key : List ℕ) (lanes₀ : List SignedDecomposer) (acc₀ : List ℕ) (lanes : List SignedDecomposer) (acc : List ℕ) (j : ℕ) : Type 0 where
  pub asks : Place w rows L start lanes₀ key acc₀
  pub count : length lanes ≡ tile
  pub state : (t : ℕ) → t < rows → lane lanes t ≡ after j (lane lanes₀ t)
  pub done : Placed q grow w rows j start key lanes₀ acc₀ acc

takes_none : (w start : ℕ) (key : List ℕ) (d : SignedDecomposer) (c x : ℕ) → pos x ≡ pos x -ℤ takes w 0 start key d c
unfolding takes sum_to
takes_none w start key d c x = simp diff (⊖-eq _ _ _ _ (omega arith))

-- one level more
takes_more : (w j start : ℕ) (key : List ℕ) (d : SignedDecomposer) (c : ℕ) (x : ℤ)
    → x -ℤ takes w j start key d c -ℤ pos (step_digit d j) *ℤ pos (get_or key (start + j * w + c) 0) ≡ x -ℤ takes w (j + 1) start key d c
unfolding takes sum_to
takes_more w j start key d c x =
    rw (add-one j)
    (law x (sum_to j (λ j. pos (step_digit d j) *ℤ pos (get_or key (start + j * w + c) 0))) (pos (step_digit d j) *ℤ pos (get_or key (start + j * w + c) 0)))
  where
    law : (x y z : ℤ) → x -ℤ y -ℤ z ≡ x -ℤ (y +ℤ z)
    law = diffs₃ _ λ a b c d e f. simp diff (⊖-eq _ _ _ _ (omega arith))

pub sinking_start : {w rows L start : ℕ} {lanes : List SignedDecomposer} {key acc : List ℕ} (q grow : ℕ) → Place w rows L start lanes key acc → Sinking q grow w rows L start key lanes acc lanes acc 0
sinking_start {w} {start = start} {lanes = lanes} {key = key} {acc = acc} q grow p =
    record {
      asks = p;
      count = p.count;
      state = λ t h. after_none (lane lanes t);
      done =
          record {
            same = refl;
            word = λ t c h k. cong_of_eq q (takes_none w start key (lane lanes t) c (get_or acc (t * w + c) 0));
            most = λ t c h k. omega arith;
          };
    }

module _ {q grow w rows L start : ℕ} {key : List ℕ} {lanes₀ : List SignedDecomposer} {acc₀ : List ℕ} {lanes : List SignedDecomposer} {acc : List ℕ} {j : ℕ} (g : Sinking q grow w rows L start key lanes₀ acc₀ lanes acc j) where
  pub sinking_end : j ≡ L → Placed q grow w rows L start key lanes₀ acc₀ acc
  sinking_end h = subst (λ n. Placed q grow w rows n start key lanes₀ acc₀ acc) h g.done

  module _ (h : j < L) where
    pub in_key : start + j * w + w ≤ length key
    in_key = omega (arith, g.asks.keyed, mul-le-mul_right {m = suc j} {n = L} w h)

    entry : List ℕ
    entry = take (start + j * w + w - (start + j * w)) (drop (start + j * w) key)

    width_is : start + j * w + w - (start + j * w) ≡ w
    width_is = omega arith

    pub entry_sized : length (take (start + j * w + w - (start + j * w)) (drop (start + j * w) key)) ≡ w
    entry_sized = length-take-le (start + j * w + w - (start + j * w)) (drop (start + j * w) key) (omega (arith, length-drop (start + j * w) key, in_key)) ∙ width_is

    entry_at : (c : ℕ) → c < w → get_or entry c 0 ≡ get_or key (start + j * w + c) 0
    unfolding entry
    entry_at c k =
        get_or-take (start + j * w + w - (start + j * w)) (drop (start + j * w) key) c 0 (omega arith) ∙ get_or-drop (start + j * w) key c 0

    pub level_room : {half : ℕ} → Room q half grow w rows L lanes₀ key acc₀
        → LevelRoom q half grow w rows lanes (take (start + j * w + w - (start + j * w)) (drop (start + j * w) key)) acc
    unfolding entry
    level_room {half} r =
        record {
          entries = λ c k.
              let k' : c < w = omega (arith, entry_sized) in
              rw (entry_at c k') (r.keys (start + j * w + c) (omega (arith, in_key)));
          digits = λ t k. rw (g.state t k) (r.digits t j k h);
          room = λ t c k l. omega (arith, g.done.most t c k l, r.room t c k l, mul-le-mul_right {m = suc j} {n = L} grow h);
        }

    module _ {lanes' : List SignedDecomposer} {acc' : List ℕ}
        (r : Leveled q grow w rows (take (start + j * w + w - (start + j * w)) (drop (start + j * w) key)) lanes acc lanes' acc') where
      leveled : Leveled q grow w rows entry lanes acc lanes' acc'
      unfolding entry
      leveled = r

      word_on : (t c : ℕ) → t < rows → c < w
          → Cong q (pos (get_or acc' (t * w + c) 0)) (pos (get_or acc₀ (t * w + c) 0) -ℤ takes w (j + 1) start key (lane lanes₀ t) c)
      word_on t c k l =
          cong_trans ((leveled.less t k).word c l)
          (cong_trans (cong_sub (g.done.word t c k l) (cong_refl q (pos (step_of (lane lanes t)).digit *ℤ pos (get_or entry c 0))))
          (cong_of_eq q
          (ap₂ (λ d n. pos (get_or acc₀ (t * w + c) 0) -ℤ takes w j start key (lane lanes₀ t) c -ℤ pos (step_of d).digit *ℤ pos n) (g.state t k) (entry_at c l)
          ∙ takes_more w j start key (lane lanes₀ t) c (pos (get_or acc₀ (t * w + c) 0)))))

      pub sinking_on : Sinking q grow w rows L start key lanes₀ acc₀ lanes' acc' (j + 1)
      sinking_on =
          record {
            asks = g.asks;
            count = leveled.count;
            state = λ t k. leveled.moved t k ∙ after_next j (lane lanes₀ t) (lane lanes t) (g.state t k);
            done =
                record {
                  same = leveled.same ∙ g.done.same;
                  word = word_on;
                  most = λ t c k l. omega (arith, (leveled.less t k).most c l, g.done.most t c k l);
                };
          }
