-- The one body of the calls: what is done with a word is a value k, and what is judged and written follows from it.
use Rattle.std.specs.Prelude.{Bool, false, List, [], ◌∷◌, ℕ, length, Result}
use Rattle.scheme.specs.Codec.{decode}
use Rattle.scheme.specs.Checks.{Check, row, Writes, words_fail, message_fails, messages_fail}
use Rattle.primus_reduce.specs.Ring.{size_of}
use Rattle.primus_reduce.specs.declared.modulus.Modulus.{Modulus}
use Rattle.check_order.specs.declared.refusal.Refusal.{Refusal}
use Rattle.check_order.specs.Answer.{answer}
use Rattle.primus_encoding.specs.declared.coding.Coding.{Coding}
use Rattle.primus_encoding.specs.declared.coding.Coding.TheVariants.{Encode, Decode, AddEncoding}
use Rattle.codec_words.specs.Embedding.{encode_word}
use Rattle.primus_encoding.specs.Answers.{add_word, encode_rows, decode_rows, add_rows}
use Rattle.primus_encoding.specs.Answers.{encode_slice_rows, decode_slice_rows, add_slice_rows}
use Rattle.primus_encoding.specs.Answers.{encoded, decoded, added}

-- what every call reads; 14 applies where w holds, 16 where b does
abbrev pub value_rows : Bool → Bool → List Check
value_rows w b = row w 14 ∷ row b 16 ∷ []

-- ---- of x, where the output holds h

abbrev pub word_rows : Coding → ℕ → Modulus → ℕ → ℕ → List Check
word_rows (Encode e) t m x h = encode_rows t m x
word_rows Decode t m x h = decode_rows t m x
word_rows (AddEncoding e) t m x h = add_rows t m h x

abbrev pub message_fault : Coding → ℕ → ℕ → Bool
message_fault (Encode e) t x = message_fails t x
message_fault Decode t x = false
message_fault (AddEncoding e) t x = message_fails t x

abbrev pub coded_word : Coding → ℕ → Modulus → ℕ → ℕ → ℕ
coded_word (Encode e) t m x h = encode_word e (size_of m) t x
coded_word Decode t m x h = decode (size_of m) t x
coded_word (AddEncoding e) t m x h = add_word e (size_of m) t h x

abbrev pub coded_answer : Coding → ℕ → Modulus → ℕ → ℕ → Result ℕ Refusal
coded_answer k t m x h = answer (word_rows k t m x h) (coded_word k t m x h)

-- ---- of the words xs, where the output holds hs

abbrev pub slice_rows : Coding → ℕ → Modulus → List ℕ → List ℕ → List Check
slice_rows (Encode e) t m xs hs = encode_slice_rows t m xs (length hs)
slice_rows Decode t m xs hs = decode_slice_rows t m xs (length hs)
slice_rows (AddEncoding e) t m xs hs = add_slice_rows t m hs xs

abbrev pub words_fault : Coding → Modulus → List ℕ → List ℕ → Bool
words_fault (Encode e) m xs hs = false
words_fault Decode m xs hs = words_fail (size_of m) xs
words_fault (AddEncoding e) m xs hs = words_fail (size_of m) hs

abbrev pub messages_fault : Coding → ℕ → List ℕ → Bool
messages_fault (Encode e) t xs = messages_fail t xs
messages_fault Decode t xs = false
messages_fault (AddEncoding e) t xs = messages_fail t xs

abbrev pub coded : Coding → ℕ → Modulus → List ℕ → List ℕ → List ℕ
coded (Encode e) t m xs hs = encoded t m e xs
coded Decode t m xs hs = decoded t m xs
coded (AddEncoding e) t m xs hs = added t m e hs xs

abbrev pub CodesSlice : Coding → ℕ → Modulus → List ℕ → List ℕ → ℕ → List ℕ → Type 0
CodesSlice k t m xs hs r after = Writes (slice_rows k t m xs hs) (coded k t m xs hs) hs r after
