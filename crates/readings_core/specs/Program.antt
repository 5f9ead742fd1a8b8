-- "The program `readings`": what a basis and a word answer, and what they leave for the next command.
use Rattle.std.specs.Prelude.{Bool, true, false, ℕ, Option, Some, None, Result, Ok, Err}
use Rattle.scheme.specs.Modulus as S
use Rattle.scheme.specs.Basis as B
use Rattle.primus_reduce.specs.Ring.{meant, number_of}
use Rattle.readings_digits.specs.Digits.{numbers, shown_digit}
use Rattle.primus_decompose.specs.Answers as A
use Rattle.check_order.specs.declared.refusal.Refusal.{Refusal}
use Rattle.check_order.specs.declared.refusal.Refusal.TheVariants as F
use Rattle.gadget_constants.specs.declared.word.Reading.{Reading}
use Rattle.primus_decompose.specs.declared.primitive.basis.ApproxSignedBasis.{ApproxSignedBasis}
use Rattle.readings_core.specs.declared.command.BasisReply.{BasisReply}
use Rattle.readings_core.specs.declared.command.WordReply.{WordReply}
use Rattle.readings_core.specs.declared.command.Reply.{Reply}
use Rattle.readings_core.specs.declared.command.Reply.TheVariants.{Basis, Word}
use Rattle.readings_core.specs.declared.command.Turn.{Turn}

-- the basis that was accepted last, if any
abbrev pub Session : Type 0
Session = Option ApproxSignedBasis

-- "`basis` q (0 = native) k base-log L d H T"
abbrev pub basis_line : ApproxSignedBasis → ℕ → BasisReply
basis_line b t =
    record {
      modulus = number_of b.modulus;
      value_bits = S.bits 32 (meant b.modulus);
      log_basis = b.log_basis.0;
      level_count = b.level_count.0;
      drop_bits = B.dropped (A.basis b);
      error_bound = B.bound (A.basis b);
      threshold = t;
    }

abbrev pub go : Result Reply Refusal → Session → Turn
go r s = record { reply = Some r; session = s; more = true }

-- "19. The command is unknown or its operands are cut off": "such a command gets 19 and no other number"
-- "After 19 it ends."
abbrev pub over : Session → Turn
over s = record { reply = Some (Err F.Unreadable); session = s; more = false }

-- no line
abbrev pub silent : Session → Bool → Turn
silent s more = record { reply = None; session = s; more = more }

-- a basis is judged by 1 to 3 and 5, as T is answered; "A refused basis keeps the earlier one."
abbrev pub after_basis : Session → ApproxSignedBasis → Result ℕ Refusal → Turn
after_basis s b (Ok t) = go (Ok (Basis (basis_line b t))) (Some b)
after_basis s b (Err e) = go (Err e) s

abbrev pub basis_turn : Session → ApproxSignedBasis → Turn
basis_turn s b = after_basis s b (A.threshold_answer b)

-- "`word` a reading ε digits"
abbrev pub word_line : ApproxSignedBasis → ℕ → Reading → WordReply
word_line b a r =
    record {
      word = a;
      reading = r.reading;
      error = r.error;
      digits = numbers 16 (shown_digit b a);
      level_count = b.level_count.0;
    }

-- a word is judged by 1 to 3, 5 and 14, as its reading is answered
abbrev pub word_from : ApproxSignedBasis → ℕ → Result Reading Refusal → Turn
word_from b a (Ok r) = go (Ok (Word (word_line b a r))) (Some b)
word_from b a (Err e) = go (Err e) (Some b)

abbrev pub read_word : ApproxSignedBasis → ℕ → Turn
read_word b a = word_from b a (A.reading_answer b a)

-- "18. A whole word command comes before any accepted basis.": there is none to judge the word by
abbrev pub word_turn : Session → ℕ → Turn
word_turn None a = go (Err F.NoBasis) None
word_turn (Some b) a = read_word b a
