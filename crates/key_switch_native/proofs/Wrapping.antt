-- The loop over the places, for words that wrap.
-- Assumes nothing.
use Rattle.std.proofs.Common.{◌≡◌, ℕ, ◌+◌, ◌-◌, ◌*◌, ◌^◌, ◌<◌, List, map, get_or, sym, ◌∙◌, subst, arith}
use Rattle.std.proofs.lemmas.List.{map-id}
use Rattle.scheme.specs.Switch.{switched_batch}
use Rattle.scheme.proofs.Residue.{residue_cong, word-residue}
use Rattle.scheme.proofs.Switch.{is_batch}
use Rattle.primus_reduce.specs.Ring.{size_of}
use Rattle.gadget_constants.specs.declared.prepared.PreparedBasis.{PreparedBasis}
use Rattle.gadget_constants.specs.Prepared.{basis_in}
use Rattle.key_switch_tile.specs.Tile.{Shaped, Reached, Fits}
use Rattle.key_switch_tile.proofs.Walks.{q_pos, half-most, levels_few}

module _ {p : PreparedBasis} {n m rows : ℕ} {input key : List ℕ} (sh : Shaped p n m rows input key) (e : size_of p.modulus ≡ 2 ^ 32)
    (out : List ℕ) (small : (k : ℕ) → get_or out k 0 < 2 ^ 32) where
  -- words below 2^32 are the residues
  pub wrapped_all : {i : ℕ} → i ≡ n → Reached p n m rows i input key (map (λ x. x) out) → out ≡ switched_batch (basis_in p) n m key rows input
  wrapped_all all reached =
      let r : Reached p n m rows n input key out = rw (map-id out, all) at reached in
      is_batch (basis_in p) n m key rows input out r.sized
      (λ t c h k. sym (word-residue (size_of p.modulus) (get_or out (t * (m + 1) + c) 0) (subst (λ z. get_or out (t * (m + 1) + c) 0 < z) (sym e) (small _))) ∙ residue_cong (q_pos sh) (r.word t c h k))

  pub wrapped_fits : Fits p m rows (2 ^ 32) (2 ^ 31) (2 ^ 32 - 1) (map (λ x. x) out)
  wrapped_fits =
      rw (map-id out)
      record { ring = e; halves = half-most sh; room = λ t c u v. omega (arith, small (t * (m + 1) + c), levels_few sh) }
