-- The codec in one number.
use Rattle.std.specs.Prelude.{ℕ}
use Rattle.primus_reduce.specs.Ring.{modulus_for}
use Rattle.primus_encoding.specs.Answers.{encode_answer, decode_answer}
use Rattle.c_answers.specs.Service.{word_number}
use Rattle.c_numbers.specs.Numbers.{embedding_for}

-- the decoding of a word, judged by 2, 7, 8 and 14
abbrev pub decode_number : ℕ → ℕ → ℕ → ℕ
decode_number n t p = word_number (decode_answer t (modulus_for n) p)

-- the encoding of a message, judged by 2, 7, 8 and 16
abbrev pub encode_number : ℕ → ℕ → ℕ → ℕ → ℕ
encode_number n t centered m = word_number (encode_answer t (modulus_for n) (embedding_for centered) m)
