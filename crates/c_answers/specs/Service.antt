-- Answers of one number: "gets one 64-bit number: the message, or 2^32 plus the refusal number."; and answers with a tag.
use Rattle.std.specs.Prelude.{◌≡◌, Bool, ℕ, ◌+◌, ◌^◌, Result, Ok, Err}
use Rattle.scheme.specs.Numbers.{pick}
use Rattle.check_order.specs.declared.refusal.Refusal.{Refusal}
use Rattle.check_order.specs.Answer.{number_of}
use Rattle.lwe_tag.specs.declared.LweTag.{LweTag}
use Rattle.lwe_tag.specs.Answers.{untallied}
use Rattle.c_answers.specs.declared.answers.LweOutcome.{LweOutcome}

-- 2^32 plus the refusal number
abbrev pub refused_number : ℕ → ℕ
refused_number r = 2 ^ 32 + r

abbrev pub word_number : Result ℕ Refusal → ℕ
word_number (Ok x) = x
word_number (Err r) = refused_number (number_of r)

-- r tells C an answer of which the promise holds: an export's promise is that of the call which it wraps
pub record Tells {A B : Type 0} (tell : A → B) (promise : A → Type 0) (r : B) : Type 0 where
  pub answer : A
  pub kept : promise answer
  pub told : r ≡ tell answer

-- 0 and the tag; or the number of the first refusal, and no tally
abbrev pub outcome_of : Result LweTag Refusal → LweOutcome
outcome_of (Ok g) = record { refusal = 0; tag = g }
outcome_of (Err r) = record { refusal = number_of r; tag = untallied }

-- 1 where the mark is good
abbrev pub mark_number : Result Bool Refusal → ℕ
mark_number (Ok b) = pick b 1 0
mark_number (Err r) = refused_number (number_of r)
