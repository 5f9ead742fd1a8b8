-- What an accepted file does to each place of a total, as a call of `add`: the words and the tag that it leaves there are those of the sum.
--     begun_place    a total that begins with a file has its ciphertexts and tags
--     added_place    the ciphertext at each place is what `add` promises of the two that meet there, and so is its tag
-- Assumes nothing.
use Rattle.std.proofs.Common.{◌≡◌, sym, ap, ◌∙◌, subst, List, ℕ, ◌+◌, ◌*◌, ◌<◌, Ok, length, get_or, arith}
use lib.Seq.{ext_get_or}
use borrow.Author.Tests.{eq-eqb}
use Rattle.scheme.specs.Lwe.{row_of}
use Rattle.scheme.specs.Checks.{refusal}
use Rattle.scheme.proofs.Lists.{length-tabulate, tabulate_at, get_d_tabulate}
use Rattle.scheme.proofs.Rows.{row_within, part_at, part_length}
use Rattle.primus_reduce.specs.Ring.{size_of}
use Rattle.lwe_tag.specs.declared.LweTag.{LweTag}
use Rattle.lwe_tag.specs.Answers.{untallied}
use Rattle.lwe_tag.proofs.Writes.{done}
use Rattle.primus_lattice.specs.Answers.{add_rows, Adds}
use Rattle.saved.specs.Layout.{file_word, file_words, saved_tag}
use Rattle.lwe_parameters.specs.declared.parameter.LweDecryptionParameters.{LweDecryptionParameters}
use Rattle.pooling_rows.specs.Rows.{place_tag, place_sum, words_from}
use Rattle.pooling_refusals.specs.Rows.{total_refusal}
use Rattle.pooling.specs.Total.{BeginsSaved, AddsSaved}
use Rattle.pooling.proofs.Places.{whole, adds_at}
use Rattle.pooling.proofs.Phases.{added-row}

-- the words of a ciphertext of a file, read at its place
file_row : (s : List ℕ) (n c i : ℕ) → i < c → words_from s (i * (n + 1)) (n + 1) ≡ row_of n (file_words s (c * (n + 1))) i
file_row s n c i h =
    ext_get_or 0 _ _ (made ∙ sym cut)
    (λ k l. let in_row : k < n + 1 = omega (arith, made) in
    get_d_tabulate (n + 1) (λ j. file_word s (i * (n + 1) + j)) k in_row
    ∙ sym (part_at (n + 1) (file_words s (c * (n + 1))) i k in_row ∙ get_d_tabulate (c * (n + 1)) (file_word s) (i * (n + 1) + k) (omega (arith, in_row, row_within (n + 1) c i h))))
  where
    made : length (words_from s (i * (n + 1)) (n + 1)) ≡ n + 1
    made = length-tabulate (n + 1) (λ j. file_word s (i * (n + 1) + j))

    cut : length (row_of n (file_words s (c * (n + 1))) i) ≡ n + 1
    cut = part_length (n + 1) c (file_words s (c * (n + 1))) i (length-tabulate (c * (n + 1)) (file_word s)) h

module _ {p : LweDecryptionParameters} {s xs words : List ℕ} {ts tags : List LweTag} where
  pub begun_place : BeginsSaved p s xs ts 0 words tags → (i : ℕ) → i < length ts
      → (row_of p.dimension.0 words i ≡ row_of p.dimension.0 (file_words s (length xs)) i) × (place_tag tags i ≡ saved_tag s i)
  begun_place b i h =
      let z = eq-eqb _ 0 (sym b.answered) in
      (ap (λ l. row_of p.dimension.0 l i) (b.begins ∙ rw z), ap (λ l. get_or l i untallied) (b.tagged ∙ rw z) ∙ tabulate_at untallied (length ts) (saved_tag s) i h)

  pub added_place : AddsSaved p s xs ts 0 words tags → (i : ℕ) → i < length ts
      → Adds p.modulus p.dimension (row_of p.dimension.0 xs i) (place_tag ts i) (row_of p.dimension.0 (file_words s (length xs)) i) (saved_tag s i)
      (Ok (place_tag tags i)) (row_of p.dimension.0 words i)
  added_place a i h =
      let n = p.dimension.0 in
      let e : total_refusal p s xs ts ≡ 0 = sym a.answered in
      let z = eq-eqb _ 0 e in
      let read = file_row s n (length ts) i h ∙ ap (λ k. row_of n (file_words s k) i) (sym (whole p s xs ts e)) in
      record {
        writes =
            done
            (sym (subst (λ y. refusal (add_rows p.modulus n (row_of n xs i) (place_tag ts i) y (saved_tag s i)) ≡ 0) read (adds_at p s xs ts e i h)))
            (ap (λ l. get_or l i untallied) (a.tagged ∙ rw z) ∙ tabulate_at untallied (length ts) (place_sum ts s) i h)
            (ap (λ l. row_of n l i) (a.adds ∙ rw z) ∙ added-row (size_of p.modulus) n i xs (file_words s (length xs)));
      }
