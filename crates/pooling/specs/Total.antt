-- A total: the words of some ciphertexts, one after the other, and a tag for each. It begins with a file,
-- and others are added place by place.
use Rattle.std.specs.Prelude.{◌≡◌, List, ℕ, eqb, length}
use Rattle.scheme.specs.Numbers.{pick}
use Rattle.scheme.specs.Lwe.{add_words}
use Rattle.primus_reduce.specs.Ring.{size_of}
use Rattle.saved.specs.Layout.{file_words}
use Rattle.pooling_rows.specs.Rows.{add_tags, saved_tags}
use Rattle.lwe_tag.specs.declared.LweTag.{LweTag}
use Rattle.lwe_parameters.specs.declared.parameter.LweDecryptionParameters.{LweDecryptionParameters}
use Rattle.pooling_refusals.specs.Rows.{begin_refusal, total_refusal}

-- the total is the file: its words and its tags, or both as they were
pub record BeginsSaved (p : LweDecryptionParameters) (s xs : List ℕ) (ts : List LweTag) (r : ℕ) (words : List ℕ) (tags : List LweTag) : Type 0 where
  pub answered : r ≡ begin_refusal p s (length xs) (length ts)
  pub begins : words ≡ pick (eqb (begin_refusal p s (length xs) (length ts)) 0) (file_words s (length xs)) xs
  pub tagged : tags ≡ pick (eqb (begin_refusal p s (length xs) (length ts)) 0) (saved_tags (length ts) s) ts

-- "A bad file must be refused by its number and touch nothing": words and tags are sums, or both as they were
pub record AddsSaved (p : LweDecryptionParameters) (s xs : List ℕ) (ts : List LweTag) (r : ℕ) (words : List ℕ) (tags : List LweTag) : Type 0 where
  pub answered : r ≡ total_refusal p s xs ts
  pub adds : words
      ≡ pick (eqb (total_refusal p s xs ts) 0) (add_words (size_of p.modulus) xs (file_words s (length xs))) xs
  pub tagged : tags ≡ pick (eqb (total_refusal p s xs ts) 0) (add_tags ts s) ts
