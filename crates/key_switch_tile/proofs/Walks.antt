-- The loop over the places, and the words that it leaves.
-- Assumes nothing.
use mathlib.Core.Path.{◌≡◌, sym, ◌∙◌, ap, subst}
use mathlib.Core.Bool.{Bool, true, false}
use mathlib.Core.List.{List}
use Prim.Native.Nat.{ℕ, zero, suc, ◌+◌, ◌*◌, ◌^◌, ◌<◌, ◌≤◌}
use native.Mathlib.Omega.{arith}
use native.Mathlib.Nat.{mul-le-mul_left, mul-le-mul_right, pow-suc, pow-zero}
use lib.Dec.{eqb}
use lib.Pow.{pow_pos, pow_mono}
use lib.IntN.{ℤ, pos, negsuc, ◌-ℤ◌}
use lib.ListN.{length, get_or}
use Rattle.scheme.specs.Numbers.{pick, Cong, tabulate}
use Rattle.scheme.specs.Basis.{Accepted, half, dropped}
use Rattle.scheme.specs.Digits.{Balanced, digit, stored}
use Rattle.scheme.specs.Lwe.{row_of}
use Rattle.scheme.specs.Switch.{start_word, place_sum}
use Rattle.scheme.proofs.Integers.{◌⊖◌, ⊖-ind}
use Rattle.scheme.proofs.Residue.{cong_trans, cong_of_eq, cong_mul}
use Rattle.scheme.proofs.Sums.{sum_cong}
use Rattle.scheme.proofs.Lists.{length-tabulate, get_d_tabulate}
use Rattle.scheme.proofs.Rows.{rows-length, rows_at, part_at}
use Rattle.scheme.proofs.Lwe.{cong_sub}
use Rattle.scheme.proofs.Balanced.{balanced_from}
use Rattle.scheme.proofs.Reading.{even_base, all_bits, digit-range}
use Rattle.scheme.proofs.Stored.{stored_cong}
use Rattle.scheme.proofs.Switch.{after-start, after_next}
use Rattle.primus_reduce.specs.Ring.{size_of}
use Rattle.gadget_digits.specs.declared.SignedDecomposer.{SignedDecomposer}
use Rattle.gadget_constants.specs.declared.prepared.PreparedBasis.{PreparedBasis}
use Rattle.gadget_digits.specs.Column.{step_digit}
use Rattle.gadget_constants.specs.Prepared.{basis_in}
use Rattle.gadget_digits.specs.Step.{decomposer_of}
use Rattle.gadget_constants.proofs.Columns.{step_digits}
use Rattle.gadget_constants.proofs.Constants.{decomposer_ready}
use Rattle.key_switch_tile.specs.Rows.{Near}
use Rattle.key_switch_tile.specs.Tile.{tile, lane, Fits, Shaped, Lanes, begun, Reached}
use lib.Arith.{digits_lt}
use Rattle.key_switch_tile.proofs.Places.{Place, Room, Placed, takes}

-- a stored digit is below B/2 or within B/2 of q
pub stored-near : (q h : ℕ) (z : ℤ) → 0 < h → h + h ≤ q → Balanced h z → Near q h (stored q z)
unfolding stored
stored-near q h z some k b = go z (balanced_from h z b)
  where
    go : (z : ℤ) → (v : ℕ) × (v < h + h) × (z ≡ v ⊖ h) → Near q h (stored q z)
    go (pos n) (v, l, e) = let s : n < h = below n v l e in record { word = omega arith; near = λ u. absurd (omega arith) }
      where
        below : (n v : ℕ) → v < h + h → pos n ≡ v ⊖ h → n < h
        below n v l = ⊖-ind (λ w. pos n ≡ w → n < h) v h (λ m f g. let s : n ≡ m = cc in omega arith) (λ m f g. let z : ◌≡◌ {A = ℕ} 0 1 = cc in omega arith)
    go (negsuc n) (v, l, e) = let s : suc n ≤ h = below n v l e in record { word = omega arith; near = λ u. omega arith }
      where
        below : (n v : ℕ) → v < h + h → negsuc n ≡ v ⊖ h → suc n ≤ h
        below n v l = ⊖-ind (λ w. negsuc n ≡ w → suc n ≤ h) v h (λ m f g. let z : ◌≡◌ {A = ℕ} 0 1 = cc in omega arith) (λ m f g. let s : n ≡ m = cc in omega arith)

-- ---- one place more, for either modulus

module _ {p : PreparedBasis} {n m rows : ℕ} {input key : List ℕ} (sh : Shaped p n m rows input key) where
  ok : Accepted (basis_in p)
  ok = sh.ready.sound.accepted

  pub log_limits : (2 ≤ p.log_basis) × (p.log_basis < 32)
  log_limits = (sh.ready.sound.log_least, sh.ready.sound.log_most)

  pub levels-least : 1 ≤ p.level_count
  levels-least = ok.some_level

  pub q_pos : 0 < size_of p.modulus
  q_pos = omega (arith, ok.fits, pow_pos p.log_basis)

  pub q_most : size_of p.modulus ≤ 2 ^ 32
  q_most = omega (arith, ok.covered, pow_mono {i = (basis_in p).bits} {j = 32} sh.ready.sound.bits-within)

  pub twice : half (basis_in p) + half (basis_in p) ≡ 2 ^ p.log_basis
  twice = sym (even_base p.log_basis (omega (arith, ok.log_least)))

  halves : (0 < half (basis_in p)) × (half (basis_in p) + half (basis_in p) ≤ size_of p.modulus)
  halves = (omega (arith, twice, pow_pos p.log_basis), omega (arith, twice, ok.fits))

  pub half-most : half (basis_in p) ≤ 2 ^ 31
  half-most = omega (arith, twice, pow_mono {i = p.log_basis} {j = 32} (omega (arith, log_limits)))

  -- word i of row t
  word_below : (t i : ℕ) → t < rows → i < n → get_or input (t * (n + 1) + i) 0 < size_of p.modulus
  word_below t i h k = sh.words (t * (n + 1) + i) (omega (arith, sh.inputs, digits_lt {r = i} {c = n + 1} h (omega arith)))

  lane-is : (i : ℕ) → i < n → (lanes : List SignedDecomposer) → Lanes p n rows i input lanes → (t : ℕ) → t < rows
      → lane lanes t ≡ decomposer_of (basis_in p) (get_or (row_of n input t) i 0)
  lane-is i k lanes l t h =
      l.is t h ∙ decomposer_ready p sh.ready (get_or input (t * (n + 1) + i) 0) (word_below t i h k)
      ∙ ap (decomposer_of (basis_in p)) (sym (part_at (n + 1) input t i (omega arith)))

  digit-near : (i : ℕ) → i < n → (lanes : List SignedDecomposer) → Lanes p n rows i input lanes → (t j : ℕ) → t < rows → j < p.level_count
      → Near (size_of p.modulus) (half (basis_in p)) (step_digit (lane lanes t) j)
  digit-near i k lanes l t j h e =
      subst (Near (size_of p.modulus) (half (basis_in p)))
      (sym (ap (λ d. step_digit d j) (lane-is i k lanes l t h) ∙ step_digits p sh.ready (get_or (row_of n input t) i 0) j e))
      (stored-near (size_of p.modulus) (half (basis_in p)) (digit (basis_in p) (get_or (row_of n input t) i 0) j) halves.0 halves.1 (digit-range (basis_in p) ok (get_or (row_of n input t) i 0) j))

  -- what a place takes away is the sum of the definition
  takes_cong : (a i c : ℕ) → Cong (size_of p.modulus) (takes (m + 1) p.level_count (i * (p.level_count * (m + 1))) key (decomposer_of (basis_in p) a) c) (place_sum (basis_in p) m key a i c)
  unfolding takes place_sum
  takes_cong a i c =
      sum_cong (size_of p.modulus) p.level_count _ _ (λ j h. cong_mul (stands j h) (cong_of_eq (size_of p.modulus) (ap (λ k. pos (get_or key k 0)) (index j))))
    where
      stands : (j : ℕ) → j < p.level_count → Cong (size_of p.modulus) (pos (step_digit (decomposer_of (basis_in p) a) j)) (digit (basis_in p) a j)
      stands j h =
          subst (λ d. Cong (size_of p.modulus) (pos d) (digit (basis_in p) a j)) (sym (step_digits p sh.ready a j h))
          (stored_cong (size_of p.modulus) (half (basis_in p)) (digit (basis_in p) a j) halves.1 (digit-range (basis_in p) ok a j))

      index : (j : ℕ) → i * (p.level_count * (m + 1)) + j * (m + 1) + c ≡ (i * p.level_count + j) * (m + 1) + c
      index j = omega arith

  -- each row begins as (0, b)
  pub begun-length : length (begun n m rows input) ≡ rows * (m + 1)
  begun-length = rows-length (λ t. tabulate (m + 1) (start_word n m (row_of n input t))) (m + 1) rows (λ t h. length-tabulate (m + 1) _)

  begun_at : (t c : ℕ) → t < rows → c < m + 1 → get_or (begun n m rows input) (t * (m + 1) + c) 0 ≡ start_word n m (row_of n input t) c
  begun_at t c h k =
      rows_at (λ t. tabulate (m + 1) (start_word n m (row_of n input t))) (m + 1) rows (λ t h. length-tabulate (m + 1) _) t c 0 h k
      ∙ get_d_tabulate (m + 1) (start_word n m (row_of n input t)) c k

  pub reached_start : (acc : List ℕ) → acc ≡ begun n m rows input → Reached p n m rows 0 input key acc
  reached_start acc e =
      record {
        sized = ap length e ∙ begun-length;
        word = λ t c h k. cong_of_eq (size_of p.modulus) (ap pos (ap (λ l. get_or l (t * (m + 1) + c) 0) e ∙ begun_at t c h k) ∙ sym (after-start (basis_in p) n m key (row_of n input t) c));
      }

  pub start-most : (acc : List ℕ) → acc ≡ begun n m rows input → (t c : ℕ) → t < rows → c < m + 1 → get_or acc (t * (m + 1) + c) 0 ≤ size_of p.modulus
  unfolding start_word
  start-most acc e t c h k =
      subst (λ w. w ≤ size_of p.modulus) (sym (ap (λ l. get_or l (t * (m + 1) + c) 0) e ∙ begun_at t c h k))
      (go (eqb c m) (subst (λ w. w < size_of p.modulus) (sym (part_at (n + 1) input t n (omega arith))) (sh.words (t * (n + 1) + n) (omega (arith, sh.inputs, digits_lt {r = n} {c = n + 1} h (omega arith))))))
    where
      go : (b : Bool) → get_or (row_of n input t) n 0 < size_of p.modulus → pick b (get_or (row_of n input t) n 0) 0 ≤ size_of p.modulus
      go true l = omega arith
      go false l = omega arith

  -- the near digits of a kernel whose bound is no less
  near_more : {q h h' d : ℕ} → h ≤ h' → Near q h d → Near q h' d
  near_more l d = record { word = d.word; near = λ u. let v = d.near (omega arith) in omega arith }

  module _ {i : ℕ} (h : i < n) {lanes : List SignedDecomposer} (l : Lanes p n rows i input lanes) {q near grow : ℕ} {acc : List ℕ} (f : Fits p m rows q near grow acc) where
    pub place_room : Room q near grow (m + 1) rows p.level_count lanes key acc
    place_room =
        record {
          keys = λ x u. subst (λ z. get_or key x 0 < z) f.ring (sh.keys x u);
          digits = λ t j u v. near_more f.halves (subst (λ z. Near z (half (basis_in p)) (step_digit (lane lanes t) j)) f.ring (digit-near i h lanes l t j u v));
          room = f.room;
        }

    pub reached_next : Reached p n m rows i input key acc → {acc' : List ℕ} → Placed q grow (m + 1) rows p.level_count (i * (p.level_count * (m + 1))) key lanes acc acc'
        → Reached p n m rows (i + 1) input key acc'
    reached_next r {acc'} d =
        record {
          sized = d.same ∙ r.sized;
          word = λ t c u v.
              cong_trans (subst (λ z. Cong z (pos (get_or acc' (t * (m + 1) + c) 0)) (pos (get_or acc (t * (m + 1) + c) 0) -ℤ takes (m + 1) p.level_count (i * (p.level_count * (m + 1))) key (lane lanes t) c)) (sym f.ring) (d.word t c u v))
              (cong_trans (cong_sub (r.word t c u v)
              (cong_trans
              (cong_of_eq (size_of p.modulus) (ap (λ x. takes (m + 1) p.level_count (i * (p.level_count * (m + 1))) key x c) (lane-is i h lanes l t u)))
              (takes_cong (get_or (row_of n input t) i 0) i c)))
              (cong_of_eq (size_of p.modulus) (sym (after_next (basis_in p) n m key (row_of n input t) i c))));
        }

  -- the key has the entries of place i
  pub place_in : (i : ℕ) → i < n → i * (p.level_count * (m + 1)) + p.level_count * (m + 1) ≤ length key
  place_in i h = omega (arith, sh.keyed, mul-le-mul_right {m = suc i} {n = n} (p.level_count * (m + 1)) h, assoc n p.level_count (m + 1))
    where
      assoc : (a b c : ℕ) → a * b * c ≡ a * (b * c)
      assoc a b c = omega arith

  -- L × B is at most 2^32
  suc-pow : (B k : ℕ) → 2 ≤ B → suc k ≤ B ^ k
  suc-pow B zero h = omega (arith, pow-zero B)
  suc-pow B (suc k) h = omega (arith, pow-suc B k, suc-pow B k h, mul-le-mul_left (B ^ k) h)

  times_pow : (B L : ℕ) → 2 ≤ B → L * B ≤ B ^ L
  times_pow B zero h = omega arith
  times_pow B (suc L) h = omega (arith, pow-suc B L, mul-le-mul_right {m = suc L} {n = B ^ L} B (suc-pow B L h))

  pub levels-most : p.level_count * 2 ^ p.log_basis ≤ 2 ^ 32
  levels-most =
      omega (
        arith,
        times_pow (2 ^ p.log_basis) p.level_count (omega (arith, pow_mono {i = 2} {j = p.log_basis} ok.log_least)),
        all_bits (basis_in p) ok,
        mul-le-mul_left ((2 ^ p.log_basis) ^ p.level_count) (pow_pos (dropped (basis_in p))),
        pow_mono {i = (basis_in p).bits} {j = 32} sh.ready.sound.bits-within,
      )

  pub levels_few : p.level_count ≤ 2 ^ 32
  levels_few = omega (arith, levels-most, mul-le-mul_left {m = 1} {n = 2 ^ p.log_basis} p.level_count (pow_pos p.log_basis))

  pub place_asks : rows ≤ tile → {i : ℕ} → i < n → {lanes : List SignedDecomposer} → length lanes ≡ tile → {acc : List ℕ} → length acc ≡ rows * (m + 1)
      → Place (m + 1) rows p.level_count (i * (p.level_count * (m + 1))) lanes key acc
  place_asks few h c s = record { few = few; count = c; sized = s; keyed = place_in _ h }
