-- The loop over the tiles of a batch.
-- Assumes nothing.
use mathlib.Core.Path.{◌≡◌, ◌∙◌, ap, ap₂}
use mathlib.Core.List.{List, ◌++◌}
use Prim.Native.Nat.{ℕ, ◌+◌, ◌*◌, ◌-◌, ◌/◌, ◌%◌, ◌<◌, ◌≤◌, min}
use native.Mathlib.Omega.{arith}
use native.Mathlib.Nat.{mul-le-mul, mul-le-mul_right, add-mul}
use lib.ListN.{length, take, drop, length-drop}
use lib.Seq.{length-take-le, length_front}
use Rattle.scheme.specs.Lwe.{row_of}
use Rattle.scheme.specs.Switch.{switched, switched_batch}
use Rattle.scheme.proofs.Rows.{Filling, filling_start, filling_group, filling_end, rows_ext, part_of_part}
use Rattle.scheme.proofs.Switch.{state_length}
use Rattle.gadget_constants.specs.declared.prepared.PreparedBasis.{PreparedBasis}
use Rattle.gadget_constants.specs.Prepared.{basis_in}
use Rattle.key_switch_tile.specs.Tile.{tile, Shaped}

-- the accumulators of a tile
abbrev pub accumulators : ℕ
accumulators = tile * (2048 + 1)

-- the rows below `done` are switched
pub record Batching (p : PreparedBasis) (n m count : ℕ) (input key out₀ out : List ℕ) (room done : ℕ) : Type 0 where
  pub roomy : room ≡ accumulators
  pub filling : Filling (λ t. switched (basis_in p) n m key (row_of n input t)) (m + 1) count out₀ out done

pub batching_start : (p : PreparedBasis) (n m count : ℕ) (input key out : List ℕ) {room : ℕ} → length out ≡ count * (m + 1) → room ≡ accumulators
    → Batching p n m count input key out out room (min 0 count)
batching_start p n m count input key out e f =
    let none : min 0 count ≡ 0 = omega arith in
    rw none record { roomy = f; filling = filling_start _ (m + 1) count out e (λ t h. state_length (basis_in p) n m key (row_of n input t) n) }

pub batching_end : {p : PreparedBasis} {n m count : ℕ} {input key out₀ out : List ℕ} {room done : ℕ} → Batching p n m count input key out₀ out room done → count ≤ done
    → out ≡ switched_batch (basis_in p) n m key count input
unfolding switched_batch
batching_end g h = filling_end g.filling h

-- the accumulators that are lent to a tile
acc_sized : (acc : List ℕ) (n : ℕ) → length acc ≡ accumulators → n ≤ accumulators → length (take n acc) ≡ n
acc_sized acc n e h = length-take-le n acc (omega arith)

-- tile u, of those that the batch fills in whole or in part
module _ {p : PreparedBasis} {n m count : ℕ} {input key : List ℕ} (sh : Shaped p n m count input key) {tiles u : ℕ} (all : tiles ≡ count / tile + min 1 (count % tile)) (this : u < tiles)
    {out₀ out : List ℕ} {room : ℕ} (before : Batching p n m count input key out₀ out room (min (u * tile) count)) {rows : ℕ} (of : rows ≡ min (count - u * tile) tile) where
  begins : u * tile < count
  begins = omega arith

  g : Batching p n m count input key out₀ out room (u * tile)
  g =
      let e : min (u * tile) count ≡ u * tile = omega (arith, begins) in
      rw e at before

  few : rows ≤ tile
  few = omega arith

  upto : u * tile + rows ≤ count
  upto = omega (arith, begins)

  out_inside : u * tile * (m + 1) + rows * (m + 1) ≤ length out
  out_inside = omega (arith, mul-le-mul_right (m + 1) upto, add-mul (u * tile) rows (m + 1), g.filling.same, g.filling.whole)

  in_inside : u * tile * (n + 1) + rows * (n + 1) ≤ length input
  in_inside = omega (arith, mul-le-mul_right (n + 1) upto, add-mul (u * tile) rows (n + 1), sh.inputs)

  acc_inside : rows * (m + 1) ≤ accumulators
  acc_inside = omega (arith, mul-le-mul {n₁ = rows} {m₁ = m + 1} {n₂ = tile} {m₂ = 2049} few (omega (arith, sh.narrow)))

  -- all that the parts of a tile ask
  pub insides : (u * tile * (m + 1) + rows * (m + 1) ≤ length out) × (u * tile * (n + 1) + rows * (n + 1) ≤ length input) × (rows * (m + 1) ≤ accumulators) × (m ≤ 2048) × (n ≤ 2048) × (u * tile + rows ≤ count)
  insides = (out_inside, in_inside, acc_inside, sh.narrow, sh.short, upto)

  wide : (a w : ℕ) → a + w - a ≡ w
  wide a w = omega arith

  out_sized : length (take (u * tile * (m + 1) + rows * (m + 1) - u * tile * (m + 1)) (drop (u * tile * (m + 1)) out)) ≡ rows * (m + 1)
  out_sized =
      length-take-le _ (drop (u * tile * (m + 1)) out) (omega (arith, length-drop (u * tile * (m + 1)) out, out_inside)) ∙ wide (u * tile * (m + 1)) (rows * (m + 1))

  pub tile_asks : (acc : List ℕ) → length acc ≡ accumulators
      → (length (take (rows * (m + 1)) acc) ≡ rows * (m + 1)) × (length (take (u * tile * (m + 1) + rows * (m + 1) - u * tile * (m + 1)) (drop (u * tile * (m + 1)) out)) ≡ rows * (m + 1))
  tile_asks acc e = (acc_sized acc _ e acc_inside, out_sized)

  pub batching_on : {run : List ℕ} → run ≡ switched_batch (basis_in p) n m key rows (take (u * tile * (n + 1) + rows * (n + 1) - u * tile * (n + 1)) (drop (u * tile * (n + 1)) input))
      → {room' : ℕ} → room' ≡ accumulators
      → Batching p n m count input key out₀ (take (u * tile * (m + 1)) out ++ (run ++ drop (u * tile * (m + 1) + rows * (m + 1) - u * tile * (m + 1)) (drop (u * tile * (m + 1)) out))) room' (min ((u + 1) * tile) count)
  unfolding switched_batch
  batching_on e f =
      let ends : u * tile + rows ≡ min ((u + 1) * tile) count = omega (arith, begins) in
      rw (← ends) record {
        roomy = f;
        filling =
            filling_group g.filling rows upto _
            (ap₂ (λ r k. take (u * tile * (m + 1)) out ++ (r ++ drop k (drop (u * tile * (m + 1)) out))) (e ∙ rows_ext rows _ _ own) (wide (u * tile * (m + 1)) (rows * (m + 1))));
      }
    where
      -- each row of the part is its own row of the batch
      own : (t : ℕ) → t < rows
          → switched (basis_in p) n m key (row_of n (take (u * tile * (n + 1) + rows * (n + 1) - u * tile * (n + 1)) (drop (u * tile * (n + 1)) input)) t)
          ≡ switched (basis_in p) n m key (row_of n input (u * tile + t))
      own t h =
          ap (λ k. switched (basis_in p) n m key (row_of n (take k (drop (u * tile * (n + 1)) input)) t)) (wide (u * tile * (n + 1)) (rows * (n + 1)))
          ∙ ap (λ x. switched (basis_in p) n m key x) (part_of_part (n + 1) rows input (u * tile) t h)

pub acc_back : (acc part : List ℕ) (n : ℕ) → length acc ≡ accumulators → length part ≡ length (take n acc) → length (part ++ drop n acc) ≡ accumulators
acc_back acc part n e f = length_front acc part n f ∙ e

pub all_done : {tiles u count : ℕ} → tiles ≡ count / tile + min 1 (count % tile) → tiles ≤ u → count ≤ min (u * tile) count
all_done e h = omega arith
