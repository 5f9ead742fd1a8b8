-- Runs, and batches of rows.
-- Assumes nothing.
use mathlib.Core.Path.{◌≡◌, refl, sym, ap, ◌∙◌}
use mathlib.Core.Bool.{Bool, true, false, not}
use Prim.Native.Nat.{ℕ, ◌+◌, ◌*◌, ◌/◌, ◌%◌, ◌≤◌}
use native.Mathlib.Nat.{mul-mod_left, mul-div_cancel, div-add-mod, mod-eq_of_lt}
use native.Mathlib.Omega.{arith}
use lib.Dec.{eqb}
use borrow.Author.Tests.{eq-eqb, ne_eqb, eqb-true, eqb-false, not-false}
use Rattle.scheme.specs.Checks.{length_fails, batch_fails}

-- two equations that hold together
eqb_iff : (a b c d : ℕ) → (a ≡ b → c ≡ d) → (c ≡ d → a ≡ b) → eqb a b ≡ eqb c d
eqb_iff a b c d f g = go (eqb a b) refl
  where
    go : (x : Bool) → eqb a b ≡ x → x ≡ eqb c d
    go true e = sym (eq-eqb c d (f (eqb-true a b e)))
    go false e = sym (ne_eqb c d (λ k. eqb-false a b e (g k)))

module _ (len count width : ℕ) where
  pub runs_cut : (len % width ≡ 0 → ⊥) → true ≡ length_fails len (count * width)
  runs_cut h = sym (ap not (ne_eqb len (count * width) (λ e. h (ap (λ n. n % width) e ∙ mul-mod_left count width))))

  pub runs_whole : (width ≡ 0 → ⊥) → len % width ≡ 0 → not (eqb (len / width) count) ≡ length_fails len (count * width)
  runs_whole z h =
      ap not
      (eqb_iff (len / width) count len (count * width)
      (λ e. let d = div-add-mod len width in omega (arith, d, ap (λ n. width * n) e))
      (λ e. ap (λ n. n / width) e ∙ mul-div_cancel count (omega arith)))

-- ---- batches of n + 1 words a row

pub batch_short : (len n : ℕ) → len ≤ n → not (eqb len 0) ≡ batch_fails len n
batch_short len n h = ap (λ x. not (eqb x 0)) (sym (mod-eq_of_lt {m = n + 1} (omega arith)))

-- `count` rows of n + 1 words
module _ (len count n : ℕ) where
  pub rows_cut : batch_fails len n ≡ true → true ≡ length_fails len (count * (n + 1))
  rows_cut e = runs_cut len count (n + 1) (λ z. let f : true ≡ false = sym e ∙ ap not (eq-eqb (len % (n + 1)) 0 z) in let k : ◌≡◌ {A = ℕ} 0 1 = cc in omega arith)

  pub rows_whole : (k : ℕ) → batch_fails len n ≡ false → k ≡ len / (n + 1) → not (eqb k count) ≡ length_fails len (count * (n + 1))
  rows_whole k e f = ap (λ k. not (eqb k count)) f ∙ runs_whole len count (n + 1) (λ z. omega arith) (eqb-true (len % (n + 1)) 0 (not-false _ e))
