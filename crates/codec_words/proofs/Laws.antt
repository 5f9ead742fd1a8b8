-- Laws of the words of a codec.
-- Assumes nothing.
use Rattle.std.proofs.Common.{◌≡◌, ℕ, ◌-◌, ◌%◌, ◌^◌, ◌<◌, ◌≤◌, Bool, pos, refl, sym, ◌∙◌, ne_eqb, arith, List, map, length}
use Rattle.std.proofs.lemmas.List.{length-map}
use Rattle.scheme.specs.Numbers.{residue}
use Rattle.scheme.specs.Codec.{encode, encode_centered, centered_start}
use Rattle.scheme.specs.Checks.{first_in}
use Rattle.scheme.proofs.Codec.{encode-below, centered_below, centered_high, centered_low}
use Rattle.scheme.proofs.Checks.{Coded, coded}
use Rattle.scheme.proofs.Order.{Sized, late, passed}
use Rattle.primus_reduce.specs.Ring.{meant, modulo}
use Rattle.primus_reduce.specs.declared.modulus.Modulus.{Modulus}
use Rattle.codec_words.specs.Words.{size_rows}

-- what 2, 7 and 8 let through
pub let_through : (t : ℕ) (m : Modulus) (b : Bool) → t < 2 ^ 32 → Sized (size_rows t m b) 0 → Coded 32 t (meant m)
unfolding first_in
let_through t m b f s =
    let no = passed (size_rows t m b) (sym (late (size_rows t m b) s refl refl)) in coded 32 t (meant m) f (no 7 tt) (no 8 tt)

-- an encoding is a word
pub encode_fits : (q t x : ℕ) → x < t → t < q → q ≤ 2 ^ 32 → encode q t x < 2 ^ 32
encode_fits q t x h k m = omega (arith, encode-below q t x h k)

pub encode_most : (q t x : ℕ) → x < t → t < q → encode q t x ≤ q
encode_most q t x h k = omega (arith, encode-below q t x h k)

-- the two ways through Centered
module _ (t q x n : ℕ) (h : x < t) (k : t < q) (en : n ≡ centered_start t) where
  pub high_fits : q ≤ 2 ^ 32 → n ≤ x → q - encode q t (t - x) < 2 ^ 32
  high_fits m l = omega (arith, centered_below q t x h k, centered_high q t x (omega arith))

  pub centered_from : n ≤ x → q - encode q t (t - x) ≡ encode_centered q t x
  centered_from l = sym (centered_high q t x (omega arith))

  pub centered_until : x < n → encode q t x ≡ encode_centered q t x
  centered_until l = sym (centered_low q t x (omega arith))

-- a decoding before and after mod t
pub reduced : (t x r : ℕ) → 2 ≤ t → r ≡ modulo t (pos x) → r ≡ x % t
unfolding residue
reduced t x r h e = e ∙ rw (ne_eqb t 0 (λ z. omega arith)) refl

-- as many words are decoded
pub mapped_length : (f : ℕ → ℕ) (xs : List ℕ) → length (map f xs) ≡ length xs
mapped_length f xs = length-map xs f
