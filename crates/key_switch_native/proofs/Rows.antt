-- One row of words that wrap: what an entry takes from it.
-- Assumes nothing.
use Rattle.std.proofs.Common.{◌≡◌, ℕ, ◌+◌, ◌-◌, ◌*◌, ◌/◌, ◌%◌, ◌^◌, ◌<◌, List, map, length, get_or, pos, ◌-ℤ◌, ◌*ℤ◌, refl, ap, ◌∙◌, mod-lt, arith}
use mathlib.Core.List.{zip_with}
use Rattle.std.proofs.lemmas.List.{map-id}
use native.Mathlib.Nat.{div-add-mod}
use Rattle.scheme.specs.Numbers.{Cong}
use Rattle.scheme.proofs.Integers.{◌⊖◌, ⊖-eq, diff}
use Rattle.scheme.proofs.Residue.{cong_of_eq}
use Rattle.scheme.proofs.InPlace.{length_zip, zip_at}
use Rattle.key_switch_tile.specs.Rows.{Less}

-- a digit of 0 takes nothing away
pub less_none : (q grow d : ℕ) (entry acc : List ℕ) → d ≡ 0 → Less q grow d entry acc acc
less_none q grow d entry acc e = record { same = refl; word = λ c k. rw e (cong_of_eq q (law (get_or acc c 0) (get_or entry c 0))); most = λ c k. omega arith }
  where
    law : (x y : ℕ) → pos x ≡ pos x -ℤ pos 0 *ℤ pos y
    law x y = simp diff (⊖-eq _ _ _ _ (omega arith))

-- x − d y
abbrev pub wrapped : ℕ → ℕ → ℕ → ℕ
wrapped d x y = (x + (2 ^ 32 - (d * y) % 2 ^ 32)) % 2 ^ 32

cong_wrapped : (d y x : ℕ) → Cong (2 ^ 32) (pos (wrapped d x y)) (pos x -ℤ pos d *ℤ pos y)
cong_wrapped d y x =
    go (d * y) (x + (2 ^ 32 - (d * y) % 2 ^ 32)) refl
  where
    go : (p s : ℕ) → s ≡ x + (2 ^ 32 - p % 2 ^ 32) → Cong (2 ^ 32) (pos (s % 2 ^ 32)) (pos x -ℤ pos p)
    go p s e = record { turns = (1 + p / 2 ^ 32) ⊖ (s / 2 ^ 32); eq = simp diff (⊖-eq _ _ _ _ (omega (arith, div-add-mod s (2 ^ 32), div-add-mod p (2 ^ 32), mod-lt p {m = 2 ^ 32} (omega arith)))) }

module _ (d : ℕ) (out entry : List ℕ) (s : length out ≡ length entry) where
  pub less_wrapped : (out' : List ℕ) → out' ≡ zip_with (wrapped d) out entry → Less (2 ^ 32) (2 ^ 32 - 1) d entry (map (λ x. x) out) (map (λ x. x) out')
  less_wrapped out' e =
      rw (map-id out, map-id out')
      record {
        same = ap length e ∙ length_zip (wrapped d) out entry s;
        word = λ c k. rw (at c k) (cong_wrapped d (get_or entry c 0) (get_or out c 0));
        most = λ c k. rw (at c k) (omega (arith, mod-lt (get_or out c 0 + (2 ^ 32 - (d * get_or entry c 0) % 2 ^ 32)) {m = 2 ^ 32} (omega arith)));
      }
    where
      at : (c : ℕ) → c < length out → get_or out' c 0 ≡ wrapped d (get_or out c 0) (get_or entry c 0)
      at c k = ap (λ l. get_or l c 0) e ∙ zip_at (wrapped d) out entry c s k
