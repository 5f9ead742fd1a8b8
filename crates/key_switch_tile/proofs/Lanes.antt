-- The loops over the rows that open a place and that begin a tile.
-- Assumes nothing.
use mathlib.Core.Path.{◌≡◌, sym, ◌∙◌, ap, ap₂}
use mathlib.Core.List.{List, ◌++◌}
use Prim.Native.Nat.{ℕ, ◌+◌, ◌-◌, ◌*◌, ◌<◌, ◌≤◌}
use native.Mathlib.Omega.{arith}
use native.Mathlib.Decide.{ℕ_discrete}
use borrow.Author.Tests.{eq-eqb, ne_eqb}
use lib.Dec.{eqb}
use lib.ListN.{length, get_or, set, take, drop, replicate, length-drop, length-set, length-replicate}
use lib.Seq.{length-take-le, get_or-set_same, get_or-set_other, ext_get_or}
use Rattle.std.proofs.lemmas.List.{get_or-replicate}
use mathlib.Core.Bool.{Bool, true, false}
use Rattle.scheme.specs.Numbers.{pick, tabulate}
use Rattle.scheme.specs.Lwe.{row_of}
use Rattle.scheme.specs.Switch.{start_word}
use Rattle.scheme.proofs.Lists.{get_d_tabulate, length-tabulate}
use Rattle.scheme.proofs.Rows.{Filling, filling_start, filling_next, row_within, part_at}
use Rattle.gadget_digits.specs.declared.SignedDecomposer.{SignedDecomposer}
use Rattle.gadget_constants.specs.declared.prepared.PreparedBasis.{PreparedBasis}
use Rattle.gadget_constants.specs.Word.{decomposer_from}
use Rattle.key_switch_tile.specs.Tile.{tile, lane, Lanes}

-- the lanes below t are open
pub record Opening (p : PreparedBasis) (n rows i : ℕ) (input : List ℕ) (lanes : List SignedDecomposer) (t : ℕ) : Type 0 where
  pub upto : t ≤ rows
  pub count : length lanes ≡ tile
  pub is : (u : ℕ) → u < t → lane lanes u ≡ decomposer_from p (get_or input (u * (n + 1) + i) 0)

module _ (p : PreparedBasis) (n rows i : ℕ) (input : List ℕ) where
  module _ (lanes : List SignedDecomposer) (t : ℕ) (g : Opening p n rows i input lanes t) where
    pub opening_end : rows ≤ t → Lanes p n rows i input lanes
    opening_end h = record { count = g.count; is = λ u k. g.is u (omega (arith, g.upto)) }

    pub opening_on : t < rows → rows ≤ tile → (d : SignedDecomposer) → d ≡ decomposer_from p (get_or input (t * (n + 1) + i) 0) → Opening p n rows i input (set lanes t d) (t + 1)
    opening_on h few d e =
        record { upto = omega arith; count = length-set lanes t d ∙ g.count; is = λ u k. go u k (ℕ_discrete u t) }
      where
        go : (u : ℕ) → u < t + 1 → Dec (u ≡ t) → lane (set lanes t d) u ≡ decomposer_from p (get_or input (u * (n + 1) + i) 0)
        go u k (yes f) = rw f (get_or-set_same lanes t d _ (omega (arith, g.count)) ∙ e)
        go u k (no f) = get_or-set_other lanes t u d _ f ∙ g.is u (omega arith)

-- (0, b): zeros, and then the body in the last place
pub start_row_is : (w body : ℕ) (zeros : List ℕ) → 0 < w → zeros ≡ replicate w 0 → set zeros (w - 1) body ≡ tabulate w (λ c. pick (eqb c (w - 1)) body 0)
start_row_is w body zeros some e =
    ext_get_or 0 _ _ (length-set zeros (w - 1) body ∙ wide ∙ sym (length-tabulate w _)) (λ k h. go k (omega (arith, h, length-set zeros (w - 1) body, wide)) (ℕ_discrete k (w - 1)))
  where
    wide : length zeros ≡ w
    wide = ap length e ∙ length-replicate w 0

    there : (k : ℕ) → k < w → (b : Bool) → eqb k (w - 1) ≡ b → pick b body 0 ≡ get_or (tabulate w (λ c. pick (eqb c (w - 1)) body 0)) k 0
    there k h b f = sym (get_d_tabulate w (λ c. pick (eqb c (w - 1)) body 0) k h ∙ ap (λ t. pick t body 0) f)

    go : (k : ℕ) → k < w → Dec (k ≡ w - 1) → get_or (set zeros (w - 1) body) k 0 ≡ get_or (tabulate w (λ c. pick (eqb c (w - 1)) body 0)) k 0
    go k h (yes f) = rw f (get_or-set_same zeros (w - 1) body 0 (omega (arith, wide))) ∙ there k h true (eq-eqb k (w - 1) f)
    go k h (no f) = get_or-set_other zeros (w - 1) k body 0 f ∙ ap (λ z. get_or z k 0) e ∙ get_or-replicate w k 0 0 h ∙ there k h false (ne_eqb k (w - 1) f)

-- the row of a ciphertext of the run
pub start_is : (n m t : ℕ) (input : List ℕ) {w : ℕ} → w ≡ m + 1 → tabulate w (λ c. pick (eqb c (w - 1)) (get_or input (t * (n + 1) + n) 0) 0) ≡ tabulate (m + 1) (start_word n m (row_of n input t))
unfolding start_word
start_is n m t input e =
    ap (λ w. tabulate w (λ c. pick (eqb c (w - 1)) (get_or input (t * (n + 1) + n) 0) 0)) e
    ∙ ap₂ (λ k b. tabulate (m + 1) (λ c. pick (eqb c k) b 0)) last (sym (part_at (n + 1) input t n (omega arith)))
  where
    last : m + 1 - 1 ≡ m
    last = omega arith

-- the rows below t are written over out₀
abbrev pub Starting : ℕ → ℕ → ℕ → List ℕ → List ℕ → List ℕ → ℕ → Type 0
Starting n m rows input out₀ out t = Filling (λ u. tabulate (m + 1) (start_word n m (row_of n input u))) (m + 1) rows out₀ out t

pub starting_start : (n m rows : ℕ) (input out : List ℕ) → length out ≡ rows * (m + 1) → Starting n m rows input out out 0
starting_start n m rows input out e = filling_start _ (m + 1) rows out e (λ t h. length-tabulate (m + 1) _)

module _ (n m rows : ℕ) (input out₀ out : List ℕ) (t : ℕ) (g : Starting n m rows input out₀ out t) (h : t < rows) where
  width : t * (m + 1) + (m + 1) - t * (m + 1) ≡ m + 1
  width = omega arith

  pub row_wide : length (take (t * (m + 1) + (m + 1) - t * (m + 1)) (drop (t * (m + 1)) out)) ≡ m + 1
  row_wide = rw width (length-take-le (m + 1) (drop (t * (m + 1)) out) (omega (arith, length-drop (t * (m + 1)) out, row_within (m + 1) rows t h, g.same, g.whole)))

  pub starting_on : {row : List ℕ} {w : ℕ} → w ≡ m + 1 → row ≡ tabulate w (λ c. pick (eqb c (w - 1)) (get_or input (t * (n + 1) + n) 0) 0)
      → Starting n m rows input out₀ (take (t * (m + 1)) out ++ (row ++ drop (t * (m + 1) + (m + 1) - t * (m + 1)) (drop (t * (m + 1)) out))) (t + 1)
  starting_on wide e =
      filling_next g h _ (ap₂ (λ r k. take (t * (m + 1)) out ++ (r ++ drop k (drop (t * (m + 1)) out))) (e ∙ start_is n m t input wide) width)
