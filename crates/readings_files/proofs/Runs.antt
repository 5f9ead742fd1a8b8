-- Runs over reads, and the lines that fall due in one:
--     run_lines   what is handed to the printing, and the last answer, are the lines of all bytes read
--     run_ends    the last answer is an end
-- Assumes nothing.
use mathlib.Core.Path.{◌≡◌, refl, sym, ap, ap₂, ◌∙◌, subst}
use mathlib.Core.Bool.{true, false}
use mathlib.Core.List.{List, [], ◌∷◌, ◌++◌, append-nil, append_assoc}
use Prim.Native.Nat.{ℕ, suc, ◌+◌, ◌-◌, ◌^◌, ◌≤◌, ◌<◌}
use native.Mathlib.Decide.{ℕ_discrete}
use native.Mathlib.Omega.{arith}
use lib.ListN.{length, take, get_or, length-append, get_or-append}
use Rattle.std.proofs.Common.{Option, Some, None}
use lib.Seq.{take-append-le, take-append_seam, get_or-append_seam}
use Rattle.readings_core.specs.declared.command.Turn.{Turn}
use Rattle.readings_commands.specs.declared.Command.{Command}
use Rattle.readings_reader.specs.declared.reader.Reader.{Reader}
use Rattle.readings_reader.specs.Run.{Line, due, start, fed, cut_off, finished, lines_fed, lines_of}
use Rattle.readings_reader.proofs.Whole.{whole_run}
use Rattle.readings_steps.specs.declared.step.Step.{Step}
use Rattle.readings_steps.specs.Steps.{fed_all, turns_fed, step_of, ended}
use Rattle.readings_steps.proofs.Fed.{fed-append, length-turns, take_places}
use Rattle.readings_files.specs.Runs.{Stepped, joined, ended_at, Ran, dues, handed}

joined_one : (rs : List (List ℕ)) (xs : List ℕ) → joined (rs ++ xs ∷ []) ≡ joined rs ++ xs
unfolding joined
joined_one [] xs = append-nil xs
joined_one (ys ∷ rs) xs = ap (λ (zs : List ℕ). ys ++ zs) (joined_one rs xs) ∙ sym (append_assoc ys (joined rs) xs)

-- ---- one read more

-- so many reads, of which none has ended the run
pub record Reached (m : Reader) (done : ℕ) : Type 0 where
  pub reads : List (List ℕ)
  pub counted : length reads ≡ done
  pub fits : (i : ℕ) → i < length reads → length (get_or reads i []) ≤ 64
  pub goes_on : (i : ℕ) → i < length reads → ended_at reads i ≡ false
  pub fed-so : m ≡ fed_all start (joined reads)

pub begin : {m : Reader} → m ≡ start → Reached m 0
unfolding joined fed_all
begin e = record { reads = []; counted = refl; fits = λ i h. absurd (omega arith); goes_on = λ i h. absurd (omega arith); fed-so = e }

module _ {m : Reader} {done : ℕ} (r : Reached m done) {s : Step} (p : Stepped m s) where
  abbrev more : List (List ℕ)
  more = r.reads ++ p.bytes ∷ []

  one_longer : length more ≡ length r.reads + 1
  one_longer = length-append r.reads (p.bytes ∷ [])

  new_fits : (i : ℕ) → i < length more → length (get_or more i []) ≤ 64
  new_fits i h = go (ℕ_discrete i (length r.reads))
    where
      go : Dec (i ≡ length r.reads) → length (get_or more i []) ≤ 64
      go (yes e) =
          subst (λ (xs : List ℕ). length xs ≤ 64) (sym (ap (λ j. get_or more j []) e ∙ get_or-append_seam r.reads p.bytes [] [])) p.fits
      go (no e) =
          let k : i < length r.reads = omega (arith, one_longer) in
          subst (λ (xs : List ℕ). length xs ≤ 64) (sym (get_or-append r.reads (p.bytes ∷ []) [] i k)) (r.fits i k)

  earlier : (i : ℕ) → i < length r.reads → ended_at more i ≡ false
  earlier i h =
      ap₂ (λ (rs : List (List ℕ)) (xs : List ℕ). ended (step_of (fed_all start (joined rs)) xs))
      (take-append-le i r.reads (p.bytes ∷ []) (omega arith)) (get_or-append r.reads (p.bytes ∷ []) [] i h)
      ∙ r.goes_on i h

  newest : ended_at more (length r.reads) ≡ ended s
  newest =
      ap₂ (λ (rs : List (List ℕ)) (xs : List ℕ). ended (step_of (fed_all start (joined rs)) xs))
      (take-append_seam r.reads (p.bytes ∷ [])) (get_or-append_seam r.reads p.bytes [] [])
      ∙ ap (λ m. ended (step_of m p.bytes)) (sym r.fed-so) ∙ ap ended (sym p.so)

  new_reader : s.reader ≡ fed_all start (joined more)
  new_reader =
      ap (λ s. s.reader) p.so ∙ ap (λ m. fed_all m p.bytes) r.fed-so
      ∙ sym (fed-append start (joined r.reads) p.bytes) ∙ ap (fed_all start) (sym (joined_one r.reads p.bytes))

  pub again : ended s ≡ false → Reached s.reader (done + 1)
  again e =
      record {
        reads = more;
        counted = omega (arith, one_longer, r.counted);
        fits = new_fits;
        goes_on = λ i k. go i k (ℕ_discrete i (length r.reads));
        fed-so = new_reader;
      }
    where
      go : (i : ℕ) → i < length more → Dec (i ≡ length r.reads) → ended_at more i ≡ false
      go i k (yes q) = ap (ended_at more) q ∙ newest ∙ e
      go i k (no q) = earlier i (omega (arith, one_longer))

  pub stop : done < 2 ^ 64 - 1 → ended s ≡ true → {t : Turn} → t ≡ finished s.reader → Ran t
  stop h e f =
      record {
        reads = more;
        some = omega (arith, one_longer);
        most = omega (arith, one_longer, r.counted);
        fits = new_fits;
        goes_on = λ i k. earlier i (omega (arith, one_longer));
        stops = λ k. ap (ended_at more) (omega (arith, one_longer)) ∙ newest ∙ e;
        last = f ∙ ap finished new_reader;
      }

-- ---- the lines

lines_append : (m : Reader) (xs ys : List ℕ) → lines_fed m (xs ++ ys) ≡ dues (turns_fed m xs) ++ lines_fed (fed_all m xs) ys
unfolding lines_fed dues turns_fed fed_all
lines_append m [] ys = refl
lines_append m (x ∷ xs) ys =
    ap (λ (ls : List Line). due (fed m x).turn ++ ls) (lines_append (fed m x) xs ys)
    ∙ sym (append_assoc (due (fed m x).turn) (dues (turns_fed (fed m x) xs)) (lines_fed (fed_all (fed m x) xs) ys))

-- of each read all turns have a place
all_placed : (m : Reader) (xs : List ℕ) → length xs ≤ 64 → take (step_of m xs).count (step_of m xs).turns ≡ turns_fed m xs
all_placed m xs h =
    ap (λ n. take n (step_of m xs).turns) (sym (length-turns m xs)) ∙ take_places 64 m.turn (turns_fed m xs) (omega (arith, length-turns m xs))

handed_lines : (m : Reader) (rs : List (List ℕ)) → ((i : ℕ) → i < length rs → length (get_or rs i []) ≤ 64)
    → handed m rs ++ due (finished (fed_all m (joined rs))) ≡ lines_fed m (joined rs)
unfolding handed joined lines_fed fed_all
handed_lines m [] h = refl
handed_lines m (xs ∷ rs) h =
    let D : List Line = dues (take (step_of m xs).count (step_of m xs).turns) in
    let n : Reader = fed_all m xs in
    append_assoc D (handed n rs) (due (finished (fed_all m (xs ++ joined rs))))
    ∙ ap (λ r. D ++ (handed n rs ++ due (finished r))) (fed-append m xs (joined rs))
    ∙ ap₂ (λ (ds : List Line) (ls : List Line). ds ++ ls) (ap dues (all_placed m xs (h 0 (omega arith)))) (handed_lines n rs (λ i k. h (suc i) (omega arith)))
    ∙ sym (lines_append m xs (joined rs))

-- what is handed to the printing in a run, and its last answer, are the lines of all bytes read
pub run_lines : {t : Turn} (r : Ran t) → handed start r.reads ++ due t ≡ lines_of (joined r.reads)
run_lines r =
    ap (λ t. handed start r.reads ++ due t) r.last ∙ handed_lines start r.reads r.fits ∙ whole_run (joined r.reads)

-- a run has ended, whatever the bytes were
pub run_ends : {t : Turn} → Ran t → t.more ≡ false
unfolding finished
run_ends {t} r = ap (λ t. t.more) r.last ∙ go (fed_all start (joined r.reads))
  where
    go : (m : Reader) → (finished m).more ≡ false
    go m = at m.command
      where
        at : (c : Option Command) → (cut_off m.turn.session c).more ≡ false
        at (Some c) = refl
        at None = refl
