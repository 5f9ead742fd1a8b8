-- Laws of packed calls: bodies that hold their plaintexts, and what the checks of a call leave.
-- Assumes nothing.
use mathlib.Core.Path.{◌≡◌, sym, ap, ap₂, ◌∙◌}
use mathlib.Core.Bool.{Bool, ◌||◌}
use mathlib.Core.List.{List, ◌++◌}
use Prim.Native.Nat.{ℕ, ◌+◌, ◌-◌, ◌≤◌, ◌<◌}
use native.Mathlib.Omega.{arith}
use lib.IntN.{ℤ, ◌+ℤ◌}
use lib.ListN.{length, drop, length-append}
use lib.Seq.{drop-append_seam}
use borrow.Author.Tests.{ltb-false}
use Rattle.scheme.specs.Numbers.{residue, tabulate}
use Rattle.scheme.specs.Lwe.{words, rotated, packed}
use Rattle.scheme.specs.Checks.{length_fails, count_fails, packed_fails}
use Rattle.scheme.proofs.Lists.{tabulate_ext}
use Rattle.scheme.proofs.Checks.{length_ok, packed_ok}
use Rattle.scheme.proofs.Order.{neither}
use Rattle.primus_lwe.proofs.Laws.{Lengths}

-- bodies that hold the words ps, of the plaintexts p, after n words of any kind
pub packed_held : (q n c : ℕ) (a front ps : List ℕ) (s e p : ℕ → ℤ) → length a ≡ n → length front ≡ length a → length ps ≡ c
    → ((i : ℕ) → i < c → words ps i ≡ p i)
    → packed q (length a) (length (front ++ ps) - length a) a s e (words (drop (length a) (front ++ ps))) ≡ packed q n c a s e p
unfolding packed
packed_held q n c a front ps s e p each f k h =
    ap₂ (λ (m : ℕ) (r : List ℕ). a ++ tabulate m (λ i. residue (rotated (length a) a s i +ℤ e i +ℤ words r i) q)) (omega (arith, length-append front ps)) (ap (λ m. drop m (front ++ ps)) (sym f) ∙ drop-append_seam front ps)
    ∙ ap (λ x. a ++ x) (tabulate_ext c _ _ (λ i l. ap₂ (λ (m : ℕ) (z : ℤ). residue (rotated m a s i +ℤ e i +ℤ z) q) each (h i l)))

-- ---- what the checks of a call leave, where no number applies

-- 9, 10, 11 and 12 of an encryption
pub record Packed (n key mask count room : ℕ) : Type 0 where
  pub each : mask ≡ n
  pub keys : key ≡ mask
  pub most : count ≤ mask
  pub fits : room ≡ mask + count

pub pack_ok : (n key mask errors count room : ℕ)
    → Lengths (length_fails key n) (count_fails count n) (length_fails room (n + count)) (length_fails errors count || length_fails mask n)
    → Packed n key mask count room
pack_ok n key mask errors count room passed =
    let l : mask ≡ n = length_ok _ _ (neither (length_fails mask n) (length_fails errors count) passed.lent).0 in
    let k : key ≡ n = length_ok _ _ passed.key in
    let r : room ≡ n + count = length_ok _ _ passed.output in
    record { each = l; keys = omega arith; most = omega (arith, ltb-false n count passed.input); fits = omega arith }

-- 9, 10 and 11 of phases
pub record Phasable (n key words room : ℕ) : Type 0 where
  pub keys : key ≡ n
  pub bodies : room ≤ key
  pub whole : words ≡ key + room
  pub count : room ≡ words - n

pub phase_ok : (n key words room : ℕ) (twelve : Bool) → Lengths (length_fails key n) (packed_fails words n) (length_fails room (words - n)) twelve
    → Phasable n key words room
phase_ok n key words room twelve passed =
    let (l, u) = packed_ok words n passed.input in
    let c : room ≡ words - n = length_ok _ _ passed.output in
    let k : key ≡ n = length_ok _ _ passed.key in
    record { keys = k; bodies = omega arith; whole = omega arith; count = c }
