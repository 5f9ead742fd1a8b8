-- A list with one of its rows replaced.
-- Assumes nothing.
use mathlib.Core.Path.{◌≡◌, sym, ◌∙◌, ap}
use mathlib.Core.Logic.{◌≢◌}
use mathlib.Core.List.{List, ◌++◌}
use Prim.Native.Nat.{ℕ, suc, ◌+◌, ◌*◌, ◌-◌, ◌<◌, ◌≤◌}
use native.Mathlib.Omega.{arith}
use native.Mathlib.Nat.{mul-le-mul_right}
use native.Mathlib.Decide.{dec_lt}
use lib.ListN.{length, get_or, take, drop, length-append, length-drop, get_or-append}
use lib.Seq.{length-take-le, get_or-take, get_or-drop, get_or-append-add}

module _ (xs ys : List ℕ) (at n : ℕ) (inside : at + n ≤ length xs) (sized : length ys ≡ n) where
  head_length : length (take at xs) ≡ at
  head_length = length-take-le at xs (omega arith)

  pub replaced-length : length (take at xs ++ (ys ++ drop n (drop at xs))) ≡ length xs
  replaced-length =
      omega (arith, length-append (take at xs) (ys ++ drop n (drop at xs)), length-append ys (drop n (drop at xs)), head_length, length-drop n (drop at xs), length-drop at xs)

  past_head : (k : ℕ) → get_or (take at xs ++ (ys ++ drop n (drop at xs))) (at + k) 0 ≡ get_or (ys ++ drop n (drop at xs)) k 0
  past_head k =
      ap (λ m. get_or (take at xs ++ (ys ++ drop n (drop at xs))) (m + k) 0) (sym head_length)
      ∙ get_or-append-add (take at xs) (ys ++ drop n (drop at xs)) k 0

  pub replaced_in : (c : ℕ) → c < n → get_or (take at xs ++ (ys ++ drop n (drop at xs))) (at + c) 0 ≡ get_or ys c 0
  replaced_in c h = past_head c ∙ get_or-append ys (drop n (drop at xs)) 0 c (omega arith)

  pub replaced_before : (k : ℕ) → k < at → get_or (take at xs ++ (ys ++ drop n (drop at xs))) k 0 ≡ get_or xs k 0
  replaced_before k h =
      get_or-append (take at xs) (ys ++ drop n (drop at xs)) 0 k (omega (arith, head_length)) ∙ get_or-take at xs k 0 h

  past_replaced : (k : ℕ) → get_or (take at xs ++ (ys ++ drop n (drop at xs))) (at + (n + k)) 0 ≡ get_or xs (at + (n + k)) 0
  past_replaced k =
      past_head (n + k) ∙ ap (λ m. get_or (ys ++ drop n (drop at xs)) (m + k) 0) (sym sized)
      ∙ get_or-append-add ys (drop n (drop at xs)) k 0 ∙ get_or-drop n (drop at xs) k 0 ∙ get_or-drop at xs (n + k) 0

  pub replaced-after : (k : ℕ) → at + n ≤ k → get_or (take at xs ++ (ys ++ drop n (drop at xs))) k 0 ≡ get_or xs k 0
  replaced-after k h =
      ap (λ m. get_or (take at xs ++ (ys ++ drop n (drop at xs))) m 0) e ∙ past_replaced (k - (at + n)) ∙ ap (λ m. get_or xs m 0) (sym e)
    where
      e : k ≡ at + (n + (k - (at + n)))
      e = omega arith

-- place c of row u, of rows of w words, is outside row t
row_before : (w t u c : ℕ) → c < w → u < t → u * w + c < t * w
row_before w t u c h k = omega (arith, mul-le-mul_right {m = suc u} {n = t} w k)

row-after : (w t u c : ℕ) → t < u → t * w + w ≤ u * w + c
row-after w t u c k = omega (arith, mul-le-mul_right {m = suc t} {n = u} w k)

-- the other rows are as they were
module _ (xs ys : List ℕ) (w t : ℕ) (inside : t * w + w ≤ length xs) (sized : length ys ≡ w) where
  pub row_other : (u c : ℕ) → u ≢ t → c < w → get_or (take (t * w) xs ++ (ys ++ drop w (drop (t * w) xs))) (u * w + c) 0 ≡ get_or xs (u * w + c) 0
  row_other u c ne h = go (dec_lt u t)
    where
      go : Dec (u < t) → get_or (take (t * w) xs ++ (ys ++ drop w (drop (t * w) xs))) (u * w + c) 0 ≡ get_or xs (u * w + c) 0
      go (yes k) = replaced_before xs ys (t * w) w inside sized (u * w + c) (row_before w t u c h k)
      go (no k) = replaced-after xs ys (t * w) w inside sized (u * w + c) (row-after w t u c (omega arith))
