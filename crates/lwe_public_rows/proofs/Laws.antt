-- Rows of a public key, written one by one, and added to a ciphertext one by one.
-- Assumes nothing.
use mathlib.Core.Path.{◌≡◌, refl, sym, ap, ◌∙◌}
use mathlib.Core.List.{List, zip_with}
use Prim.Native.Nat.{ℕ, zero, suc, ◌+◌, ◌*◌, ◌-◌, ◌≤◌, ◌<◌}
use native.Mathlib.Nat.{mod-eq_of_lt}
use native.Mathlib.Omega.{arith}
use native.Mathlib.Decide.{ℕ_discrete}
use lib.Dec.{eqb}
use lib.IntN.{ℤ, pos, negsuc, nat_abs, ◌+ℤ◌, +ℤ_idr, zero-*ℤ}
use lib.ListN.{length, get_or, set, take, drop, length-set}
use lib.Seq.{ext_get_or, get_or-set_same, get_or-set_other}
use borrow.Author.Tests.{eq-eqb, ne_eqb}
use Rattle.scheme.specs.Numbers.{pick, residue, tabulate}
use Rattle.scheme.specs.Lwe.{signed}
use Rattle.scheme.specs.Switch.{Below}
use Rattle.scheme.proofs.Residue.{residue_lt, cong_add, cong_of_eq, cong_trans, residue_cong}
use Rattle.scheme.proofs.Lists.{is_tabulate, length-tabulate, get_d_tabulate}
use Rattle.scheme.proofs.InPlace.{length_zip, zip_at}
use Rattle.scheme.proofs.Rows.{row_within, part_at, part_length}
use Rattle.scheme.proofs.Lwe.{stands}
use Rattle.scheme.proofs.Public.{Upto, up_to, upto_start, upto_next}
use Rattle.primus_reduce.specs.Ring.{modulo}
use Rattle.lwe_secret_key.proofs.Laws.{modulo_stands}
use Rattle.lwe_public_rows.specs.Public.{plus_times, start_word, Public}

modulo_plain : (q : ℕ) (z : ℤ) → 0 < q → modulo q z ≡ residue z q
modulo_plain q z h = rw (ne_eqb q 0 (λ f. omega arith))

-- a word that no row is added to
pub same_word : (q x y : ℕ) → x < q → x ≡ plus_times q (pos 0) x y
unfolding residue
same_word q x y h = sym (ap (λ z. residue (pos x +ℤ z) q) (zero-*ℤ (pos y)) ∙ ap (λ z. residue z q) (+ℤ_idr (pos x)) ∙ mod-eq_of_lt h)

-- a list by its places
pub is_zip : (f : ℕ → ℕ → ℕ) (xs ys zs : List ℕ) → length xs ≡ length ys → length zs ≡ length xs
    → ((i : ℕ) → i < length xs → get_or zs i 0 ≡ f (get_or xs i 0) (get_or ys i 0)) → zs ≡ zip_with f xs ys
is_zip f xs ys zs e l h =
    ext_get_or 0 zs (zip_with f xs ys) (l ∙ sym (length_zip f xs ys e))
    (λ i k. h i (omega arith) ∙ sym (zip_at f xs ys i e (omega arith)))

-- a row whose coefficient is neither 1 nor −1
pub left_out : (q : ℕ) (r : ℤ) (xs ys : List ℕ) → nat_abs r < 2 → (r ≡ pos 1 → ⊥) → (r ≡ negsuc 0 → ⊥) → length xs ≡ length ys → Below q xs
    → xs ≡ zip_with (plus_times q r) xs ys
left_out q (pos zero) xs ys small one minus e b = is_zip (plus_times q (pos 0)) xs ys xs e refl (λ i h. same_word q (get_or xs i 0) (get_or ys i 0) (b i h))
left_out q (pos (suc zero)) xs ys small one minus e b = absurd (one refl)
left_out q (pos (suc (suc n))) xs ys small one minus e b = absurd (omega (arith, small))
left_out q (negsuc zero) xs ys small one minus e b = absurd (minus refl)
left_out q (negsuc (suc n)) xs ys small one minus e b = absurd (omega (arith, small))

-- word k before any row
module _ (q n k : ℕ) (f : ℕ → ℤ) (h : 0 < q) (error : ℕ) (e : error ≡ modulo q (f k)) where
  start_body : (p : ℕ) {r : ℕ} → k ≡ n → r ≡ modulo q (pos error +ℤ pos p) → r ≡ start_word q n f p k
  unfolding start_word
  start_body p z er =
      er ∙ modulo_plain q (pos error +ℤ pos p) h
      ∙ residue_cong h (cong_add (modulo_stands h (f k) e) (cong_of_eq q (sym (ap (λ b. pick b (pos p) (pos 0)) (eq-eqb k n z)))))

  start_mask : (p : ℕ) → (k ≡ n → ⊥) → error ≡ start_word q n f p k
  unfolding start_word
  start_mask p z =
      e ∙ modulo_plain q (f k) h ∙ ap (λ x. residue x q) (sym (ap (λ b. f k +ℤ pick b (pos p) (pos 0)) (ne_eqb k n z) ∙ +ℤ_idr (f k)))

-- the errors as words, and p added to the last
pub started : (q p w : ℕ) (f : ℕ → ℤ) (xs : List ℕ) (v : ℕ) → 0 < q → 0 < w → length xs ≡ w → ((k : ℕ) → k < w → get_or xs k 0 ≡ modulo q (f k))
    → v ≡ modulo q (pos (get_or xs (w - 1) 0) +ℤ pos p) → set xs (w - 1) v ≡ tabulate w (start_word q (w - 1) f p)
started q p w f xs v h some size at ev = is_tabulate w _ _ (length-set xs (w - 1) v ∙ size) (λ k l. go k l (ℕ_discrete k (w - 1)))
  where
    go : (k : ℕ) → k < w → Dec (k ≡ w - 1) → get_or (set xs (w - 1) v) k 0 ≡ start_word q (w - 1) f p k
    go k l (yes z) =
        rw z (get_or-set_same xs (w - 1) v 0 (omega (arith, some, size)) ∙ start_body q (w - 1) (w - 1) f h _ (at (w - 1) (omega (arith, some))) p refl ev)
    go k l (no z) = get_or-set_other xs (w - 1) k v 0 z ∙ start_mask q (w - 1) k f h _ (at k l) p z

module _ (q n : ℕ) (key : List ℕ) (f : ℕ → ℤ) (rs : List ℤ) (room : ℕ) (positive : 0 < q) (ok : Public n key rs room) (p : ℕ) where
  -- before the first row
  pub public_start : (x : List ℕ) → x ≡ tabulate room (start_word q (room - 1) f p) → Upto q n key f (pos p) (signed rs) 0 x
  unfolding start_word
  public_start x e =
      upto_start q positive n key f (pos p) (signed rs) x (ap length e ∙ length-tabulate room _ ∙ ok.fits)
      (λ k a. cong_trans (cong_of_eq q (ap pos (word k a))) (stands positive _))
      (λ k a. rw (word k a) (residue_lt (f k +ℤ pick (eqb k n) (pos p) (pos 0)) q positive))
    where
      word : (k : ℕ) → k ≤ n → get_or x k 0 ≡ start_word q n f p k
      word k a = ap (λ l. get_or l k 0) e ∙ get_d_tabulate room (start_word q (room - 1) f p) k (omega (arith, ok.fits)) ∙ ap (λ m. start_word q m f p k) (omega (arith, ok.fits))

  module _ (i : ℕ) (x : List ℕ) (u : Upto q n key f (pos p) (signed rs) i x) (h : i < n) where
    pub public_part : i * (n + 1) + (n + 1) ≤ length key
    public_part = omega (arith, row_within (n + 1) n i h, ok.rows)

    size : i * (n + 1) + (n + 1) - i * (n + 1) ≡ n + 1
    size = omega arith

    row-size : length (take (i * (n + 1) + (n + 1) - i * (n + 1)) (drop (i * (n + 1)) key)) ≡ n + 1
    row-size = ap (λ m. length (take m (drop (i * (n + 1)) key))) size ∙ part_length (n + 1) n key i ok.rows h

    pub public_same : length x ≡ length (take (i * (n + 1) + (n + 1) - i * (n + 1)) (drop (i * (n + 1)) key))
    public_same = u.sized ∙ sym row-size

    pub public_below : Below q x
    public_below k a = rw (u.word k (omega (arith, u.sized))) (residue_lt (up_to n key f (pos p) (signed rs) i k) q positive)

    -- one row more
    pub public_next : (y : List ℕ) → y ≡ zip_with (plus_times q (get_or rs i (pos 0))) x (take (i * (n + 1) + (n + 1) - i * (n + 1)) (drop (i * (n + 1)) key))
        → Upto q n key f (pos p) (signed rs) (i + 1) y
    public_next y e =
        upto_next q positive n key f (pos p) (signed rs) i x y u (ap length e ∙ length_zip _ x _ public_same ∙ u.sized)
        (λ k a. ap (λ l. get_or l k 0) e ∙ zip_at (plus_times q (get_or rs i (pos 0))) x _ k public_same (omega (arith, u.sized))
        ∙ ap (λ w. plus_times q (get_or rs i (pos 0)) (get_or x k 0) w) (ap (λ m. get_or (take m (drop (i * (n + 1)) key)) k 0) size ∙ part_at (n + 1) key i k (omega arith)))
