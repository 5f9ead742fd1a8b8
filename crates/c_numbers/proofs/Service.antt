-- One number that the service can trust: where none of 2, 7, 8, 14 applies it is the message, which is below t; else it is 2^32 plus
-- the first that does. So for any t that is a word, the number is below 2^32 exactly where there is a message (`unambiguous`).
-- Assumes nothing.
use mathlib.Core.Path.{◌≡◌, refl, sym, ap, ◌∙◌}
use mathlib.Core.Logic.{◌↔◌}
use mathlib.Core.Bool.{Bool, true, false}
use Rattle.std.proofs.Common.{Result, Ok, Err}
use Prim.Native.Nat.{ℕ, ◌+◌, ◌^◌, ◌<◌, ◌≤◌}
use native.Mathlib.Omega.{arith}
use lib.Dec.{eqb}
use borrow.Author.Tests.{eq-eqb, eqb-true}
use Rattle.check_order.specs.declared.refusal.Refusal.{Refusal}
use Rattle.scheme.specs.Codec.{decode}
use Rattle.scheme.specs.Checks.{refusal}
use Rattle.scheme.proofs.Codec.{decode-below}
use Rattle.scheme.proofs.Checks.{plaintext_ok}
use Rattle.scheme.proofs.Order.{passed}
use Rattle.primus_reduce.specs.Ring.{size_of, modulus_for}
use Rattle.check_order.specs.Answer.{answer, code_of}
use Rattle.check_order.proofs.Answers.{accepted, code_is}
use Rattle.primus_encoding.specs.Answers.{decode_rows}
use Rattle.c_answers.specs.Service.{word_number}
use Rattle.c_numbers.specs.Service.{decode_number}

-- the first of 2, 7, 8, 14 that applies, or 0
abbrev pub refusal_of : ℕ → ℕ → ℕ → ℕ
refusal_of n t p = refusal (decode_rows t (modulus_for n) p)

abbrev pub message_of : ℕ → ℕ → ℕ → ℕ
message_of n t p = decode (size_of (modulus_for n)) t p

pub record Told (n t p : ℕ) : Type 0 where
  pub message : refusal_of n t p ≡ 0 → (decode_number n t p ≡ message_of n t p) × (message_of n t p < t)
  pub refusal : (refusal_of n t p ≡ 0 → ⊥) → decode_number n t p ≡ 2 ^ 32 + refusal_of n t p

pub told : (n t p : ℕ) → Told n t p
told n t p = record { message = λ e. (ap word_number (accepted (decode_rows t (modulus_for n) p) (message_of n t p) e), below e); refusal = refused }
  where
    below : refusal_of n t p ≡ 0 → message_of n t p < t
    below e =
        let s : 2 ≤ t = plaintext_ok t (passed (decode_rows t (modulus_for n) p) e 7 tt) in
        decode-below (size_of (modulus_for n)) t p (omega arith)

    refused : (refusal_of n t p ≡ 0 → ⊥) → decode_number n t p ≡ 2 ^ 32 + refusal_of n t p
    refused h = by_code (answer (decode_rows t (modulus_for n) p) (message_of n t p)) (code_is (decode_rows t (modulus_for n) p) (message_of n t p))
      where
        by_code : (r : Result ℕ Refusal) → code_of r ≡ refusal_of n t p → word_number r ≡ 2 ^ 32 + refusal_of n t p
        by_code (Ok x) e = absurd (h (sym e))
        by_code (Err r) e = ap (λ k. 2 ^ 32 + k) e

pub unambiguous : (n t p : ℕ) → t < 2 ^ 32 → (decode_number n t p < 2 ^ 32) ↔ (refusal_of n t p ≡ 0)
unambiguous n t p h = (λ l. go l (eqb (refusal_of n t p) 0) refl, λ e. let m = (told n t p).message e in omega (arith, m.0, m.1))
  where
    differ : true ≡ false → ⊥
    differ e = let z : ◌≡◌ {A = ℕ} 0 1 = cc in omega (arith, z)

    go : decode_number n t p < 2 ^ 32 → (b : Bool) → eqb (refusal_of n t p) 0 ≡ b → refusal_of n t p ≡ 0
    go l true e = eqb-true _ 0 e
    go l false e = absurd (omega (arith, l, (told n t p).refusal (λ z. differ (sym (eq-eqb _ 0 z) ∙ e))))
