-- The loop over the places, for exact sums.
-- Assumes nothing.
use mathlib.Core.Path.{◌≡◌, refl, sym, ◌∙◌, ap, subst}
use mathlib.Core.List.{List, map}
use Prim.Native.Nat.{ℕ, ◌+◌, ◌*◌, ◌-◌, ◌/◌, ◌%◌, ◌^◌, ◌<◌, ◌≤◌}
use native.Mathlib.Omega.{arith}
use native.Mathlib.Nat.{mul-le-mul_right}
use lib.IntN.{pos}
use lib.ListN.{length, get_or, length-map}
use Rattle.std.proofs.lemmas.List.{map-id}
use Rattle.scheme.specs.Numbers.{residue, Cong}
use Rattle.scheme.specs.Basis.{half}
use Rattle.scheme.specs.Switch.{switched_batch}
use Rattle.scheme.proofs.InPlace.{map_at}
use Rattle.scheme.proofs.Residue.{cong_trans, residue_cong}
use Rattle.scheme.proofs.Switch.{is_batch}
use Rattle.primus_reduce.specs.Ring.{size_of}
use Rattle.gadget_constants.specs.declared.prepared.PreparedBasis.{PreparedBasis}
use Rattle.gadget_constants.specs.Prepared.{basis_in}
use Rattle.key_switch_tile.specs.Tile.{Shaped, begun, Reached, Fits, Grown}
use lib.Arith.{digits_lt}
use Rattle.key_switch_tile.proofs.Walks.{q_pos, q_most, twice, levels-most, start-most, reached_start}
use Rattle.key_switch_accumulate.specs.Rows.{Kept}

-- the numbers that the loop is set up with: q, B/2, the most that a place adds, and the limit that leaves room for it
pub record Costs (p : PreparedBasis) (q h cost limit : ℕ) : Type 0 where
  pub modulus : size_of p.modulus ≡ q
  pub halved : h ≡ 2 ^ p.log_basis / 2
  pub costs : cost ≡ p.level_count * (h * q)
  pub leaves : limit ≡ 18446744073709551615 - cost

-- the places below i are done, and no accumulator is above the ceiling
pub record Walking (p : PreparedBasis) (n m rows : ℕ) (input key acc : List ℕ) (ceiling i : ℕ) : Type 0 where
  pub reached : Reached p n m rows i input key acc
  pub most : (t c : ℕ) → t < rows → c < m + 1 → get_or acc (t * (m + 1) + c) 0 ≤ ceiling

module _ {p : PreparedBasis} {n m rows : ℕ} {input key : List ℕ} (sh : Shaped p n m rows input key) where
  -- ---- the last reduction

  residues : (acc out : List ℕ) → Reached p n m rows n input key acc → out ≡ map (λ x. x % size_of p.modulus) acc → out ≡ switched_batch (basis_in p) n m key rows input
  unfolding residue
  residues acc out r e =
      is_batch (basis_in p) n m key rows input out (ap length e ∙ length-map acc (λ x. x % size_of p.modulus) ∙ r.sized)
      (λ t c h k.
      ap (λ o. get_or o (t * (m + 1) + c) 0) e
      ∙ map_at (λ x. x % size_of p.modulus) acc (t * (m + 1) + c) (omega (arith, r.sized, digits_lt h k))
      ∙ residue_cong (q_pos sh) (r.word t c h k))

  pub reduced : {q : ℕ} → size_of p.modulus ≡ q → {acc out : List ℕ} → Reached p n m rows n input key acc → out ≡ map (λ x. x % q) acc → out ≡ switched_batch (basis_in p) n m key rows input
  reduced eq {acc} {out} r e = residues acc out r (subst (λ z. out ≡ map (λ x. x % z) acc) (sym eq) e)

  -- ---- the places

  pub cost_small : (q h : ℕ) → size_of p.modulus ≡ q → h ≡ 2 ^ p.log_basis / 2 → p.level_count * (h * q) ≤ 2 ^ 63
  cost_small q h eq eh = omega (arith, mul-le-mul_right {m = p.level_count * h} {n = 2 ^ 31} q halved, q_most sh, eq)
    where
      double : half (basis_in p) + half (basis_in p) ≡ 2 ^ p.log_basis → h + h ≡ 2 ^ p.log_basis
      double e = omega arith

      halved : p.level_count * h ≤ 2 ^ 31
      halved = omega (arith, levels-most sh, ap (λ x. p.level_count * x) (double (twice sh)))

  pub costs_of : {q h cost : ℕ} → size_of p.modulus ≡ q → h ≡ 2 ^ p.log_basis / 2 → cost ≡ p.level_count * (h * q) → Costs p q h cost (18446744073709551615 - cost)
  costs_of eq eh ec = record { modulus = eq; halved = eh; costs = ec; leaves = refl }

  module _ {q h cost limit : ℕ} (k : Costs p q h cost limit) where
    small : p.level_count * (h * q) ≤ 2 ^ 63
    small = cost_small q h k.modulus k.halved

    pub room_asks : q ≤ limit
    room_asks = omega (arith, small, q_most sh, k.modulus, k.costs, k.leaves)

    pub walking_start : {acc : List ℕ} → acc ≡ begun n m rows input → {first : ℕ} → first ≡ q → Walking p n m rows input key acc first 0
    walking_start {acc} e f =
        record {
          reached = reached_start sh acc e;
          most = λ t c u v. omega (arith, start-most sh acc e t c u v, k.modulus, f);
        }

    module _ {acc : List ℕ} {ceiling i : ℕ} (g : Walking p n m rows input key acc ceiling i) where
      pub walking_end : i ≡ n → Reached p n m rows n input key acc
      walking_end e = rw e at g.reached

      module _ (inside : i < n) {r : ℕ} {acc₁ : List ℕ} (kp : Kept q ceiling limit acc r acc₁) where
        in_acc : (t c : ℕ) → t < rows → c < m + 1 → t * (m + 1) + c < length acc
        in_acc t c u v = omega (arith, g.reached.sized, digits_lt u v)

        most₁ : (t c : ℕ) → t < rows → c < m + 1 → get_or acc₁ (t * (m + 1) + c) 0 ≤ r
        most₁ t c u v = kp.most (t * (m + 1) + c) (in_acc t c u v) (g.most t c u v)

        reached₁ : Reached p n m rows i input key acc₁
        reached₁ =
            record {
              sized = kp.same ∙ g.reached.sized;
              word = λ t c u v.
                  cong_trans (subst (λ z. Cong z (pos (get_or acc₁ (t * (m + 1) + c) 0)) (pos (get_or acc (t * (m + 1) + c) 0))) (sym k.modulus) (kp.word (t * (m + 1) + c) (in_acc t c u v)))
                  (g.reached.word t c u v);
            }

        pub ceiling_fits : r + cost < 2 ^ 64
        ceiling_fits = omega (arith, kp.low, small, k.costs, k.leaves)

        pub kept_reached : Reached p n m rows i input key (map (λ x. x) acc₁)
        kept_reached = rw (map-id acc₁) reached₁

        pub walk_fits : Fits p m rows q h (h * q) (map (λ x. x) acc₁)
        walk_fits =
            rw (map-id acc₁)
            record { ring = k.modulus; halves = omega (arith, k.halved); room = λ t c u v. omega (arith, most₁ t c u v, ceiling_fits, k.costs) }

        pub walking_on : {acc₂ : List ℕ} → Reached p n m rows (i + 1) input key (map (λ x. x) acc₂) × Grown m rows (p.level_count * (h * q)) (map (λ x. x) acc₁) (map (λ x. x) acc₂)
            → Walking p n m rows input key acc₂ (r + cost) (i + 1)
        walking_on {acc₂} d =
            let e : Reached p n m rows (i + 1) input key acc₂ × Grown m rows (p.level_count * (h * q)) acc₁ acc₂ = rw (map-id acc₁, map-id acc₂) at d in
            record { reached = e.0; most = λ t c u v. omega (arith, e.1 t c u v, most₁ t c u v, k.costs) }
