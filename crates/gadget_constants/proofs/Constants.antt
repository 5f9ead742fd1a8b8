-- The constants of a basis, and where the walk of a word begins.
-- Assumes nothing.
use Rattle.std.proofs.Common.{◌≡◌, ℕ, zero, suc, ◌+◌, ◌-◌, ◌*◌, ◌/◌, ◌%◌, ◌^◌, ◌<◌, ◌≤◌, max, false, eqb, ltb, refl, ap, ◌∙◌, ap₂, mod-eq_of_lt, mul_comm, mul-le-mul, arith, pow_pos, pow_mono}
use lib.Pow.{pow-lt}
use Rattle.scheme.specs.Numbers.{pick}
use Rattle.scheme.specs.Basis.{bound_of, dropped}
use Rattle.scheme.specs.Reading.{largest, threshold}
use Rattle.scheme.proofs.Reading.{pow-mul, threshold-half}
use Rattle.scheme.specs.Modulus.{Fits, bits}
use Rattle.scheme.specs.Checks.{refusal, basis_rows}
use Rattle.scheme.proofs.Checks.{Sound}
use Rattle.gadget_constants.proofs.Sound.{sound-basis}
use Rattle.gadget_digits.specs.Step.{first_carry, decomposer_of}
use Rattle.gadget_constants.specs.Prepared.{wrap_at, Narrow, Ready, basis_by, basis_in, prepared_of}
use Rattle.gadget_constants.specs.Word.{adjust_by, init_from, init_of, decomposer_from}
use Rattle.gadget_digits.proofs.Steps.{above_none}
use Rattle.gadget_constants.specs.declared.prepared.PreparedBasis.{PreparedBasis}
use Rattle.gadget_digits.specs.Walk.{adjusted, carry_in}
use Rattle.primus_reduce.proofs.Laws.{one_shl, product-most}
use Rattle.primus_reduce.specs.Ring.{meant, size_of}
use Rattle.primus_reduce.specs.declared.modulus.Modulus.{Modulus}

-- ---- constants

pub bound_none : (d : ℕ) → d ≡ 0 → 0 ≡ bound_of d
unfolding bound_of
bound_none zero e = refl
bound_none (suc d) e = absurd (omega arith)

pub bound_some : (d : ℕ) → d ≤ 32 → (d ≡ 0 → ⊥) → (1 * 2 ^ (d - 1)) % 2 ^ 32 ≡ bound_of d
unfolding bound_of
bound_some zero h e = absurd (e refl)
bound_some (suc d) h e = ap (λ n. (1 * 2 ^ n) % 2 ^ 32) less ∙ one_shl 32 d (omega arith)
  where
    less : suc d - 1 ≡ d
    less = omega arith

pub carry_none : (d v : ℕ) → d ≡ 0 → false ≡ eqb (carry_in d v) 1
unfolding carry_in
carry_none zero v e = refl
carry_none (suc d) v e = absurd (omega arith)

pub carry_some : (d v : ℕ) → (d ≡ 0 → ⊥) → eqb (v / 2 ^ (d - 1) % 2) 1 ≡ eqb (carry_in d v) 1
unfolding carry_in
carry_some zero v e = absurd (e refl)
carry_some (suc d) v e = ap (λ n. eqb (v / 2 ^ n % 2) 1) less
  where
    less : suc d - 1 ≡ d
    less = omega arith

-- no bit of a word is above its 32
pub carry_beyond : (d v : ℕ) → v < 2 ^ 32 → 32 < d → false ≡ eqb (carry_in d v) 1
unfolding carry_in
carry_beyond zero v h k = absurd (omega arith)
carry_beyond (suc d) v h k = ap (λ n. eqb (n % 2) 1) (above_none d v h (omega arith))

-- ---- T and the other constants

-- what the code of T asks, of the four powers that it takes
pub record Steps (log L d x y z h : ℕ) : Type 0 where
  pub half : 1 ≤ x / 2
  pub top : 1 ≤ y
  pub product : (x / 2 - 1) * (y - 1) < 2 ^ 64
  pub base : 1 ≤ x
  pub divisor : 0 < x - 1
  pub scaled : (x / 2 - 1) * (y - 1) / (x - 1) * z < 2 ^ 32
  pub sum : (x / 2 - 1) * (y - 1) / (x - 1) * z + h < 2 ^ 32
  pub is : (x / 2 - 1) * (y - 1) / (x - 1) * z + h ≡ wrap_at log L d

pub threshold_steps : (log L d x y z h : ℕ) → Narrow log L d → x ≡ 2 ^ log → y ≡ 2 ^ (L * log) → z ≡ 2 ^ d → h ≡ max (bound_of d) 1 → Steps log L d x y z h
threshold_steps log L d x y z h s ex ey ez eh =
    let b : 4 ≤ x = omega (arith, pow_mono {i = 2} {j = log} s.least) in
    let u : x < 2 ^ 32 = omega (arith, pow-lt {i = log} {j = 32} s.most) in
    let t : 1 ≤ y = omega (arith, pow_pos (L * log)) in
    let v : y ≤ 2 ^ 32 = omega (arith, pow_mono {i = L * log} {j = 32} (omega (arith, s.room))) in
    let e : (x / 2 - 1) * (y - 1) / (x - 1) * z + h ≡ wrap_at log L d = rw (ex, ey, ez, eh) refl in
    record {
      half = omega arith;
      top = t;
      product = omega (arith, product-most (x / 2 - 1) (y - 1) (omega arith) (omega arith));
      base = omega arith;
      divisor = omega arith;
      scaled = omega (arith, s.fits);
      sum = omega (arith, s.fits);
      is = e;
    }

module _ (m : Modulus) (b L : ℕ) (s : Sound 32 (meant m) b L) where
  -- the four numbers of the basis by L × base log
  pub levels-room : L * b ≤ (basis_by m b L).bits
  levels-room = s.levels-within

  pub levels-most : L ≤ 32
  levels-most = omega (arith, levels-room, s.bits-within, mul-le-mul {n₁ = L} {m₁ = 1} {n₂ = L} {m₂ = b} (omega arith) (omega (arith, s.log_least)))

  pub wrap_is : wrap_at b L (dropped (basis_by m b L)) ≡ threshold (basis_by m b L)
  unfolding threshold largest
  wrap_is =
      ap (λ n. (2 ^ b / 2 - 1) * (n - 1) / (2 ^ b - 1) * 2 ^ dropped (basis_by m b L) + max (bound_of (dropped (basis_by m b L))) 1)
      (ap (λ n. 2 ^ n) (mul_comm L b) ∙ pow-mul 2 b L)

  pub narrow : Narrow b L (dropped (basis_by m b L))
  unfolding dropped
  narrow =
      record {
        least = s.log_least;
        most = s.log_most;
        some = s.accepted.some_level;
        room = omega (arith, levels-room, s.bits-within);
        fits =
            omega (
              arith,
              wrap_is,
              threshold-half (basis_by m b L) s.accepted,
              pow_mono {i = (basis_by m b L).bits} {j = 32} s.bits-within,
            );
      }

-- what the code of the constants asks, with k and q as it holds them
pub record Asked (m : Modulus) (b L k q : ℕ) : Type 0 where
  pub sound : Sound 32 (meant m) b L
  pub bits-is : k ≡ (basis_by m b L).bits
  pub size_is : q ≡ size_of m
  pub count : L < 2 ^ 32
  pub product : L * b < 2 ^ 32
  pub log : b ≤ 32
  pub within : k ≤ 32
  pub room : L * b ≤ k
  pub narrow : Narrow b L (k - L * b)
  pub covered : q ≤ 2 ^ k
  pub base : 2 ^ b ≤ q
  pub added : 2 ^ k - q < 2 ^ 32

pub asked : (m : Modulus) (b L k q : ℕ) → (q ≡ size_of m) × Fits 32 (meant m) → refusal (basis_rows 32 (meant m) b L) ≡ 0 → k ≡ bits 32 (meant m)
    → Asked m b L k q
unfolding dropped
asked m b L k q eq z ek =
    let s = sound-basis m b L eq.1 z in
    let covered : q ≤ 2 ^ k = rw (ek, eq.0) s.accepted.covered in
    let base : 2 ^ b ≤ q = rw eq.0 s.accepted.fits in
    record {
      sound = s;
      bits-is = ek;
      size_is = eq.0;
      count = omega (arith, levels-most m b L s);
      product = omega (arith, s.levels-within, s.bits-within);
      log = omega (arith, s.log_most);
      within = omega (arith, s.bits-within);
      room = omega (arith, s.levels-within);
      narrow = rw ek (narrow m b L s);
      covered = covered;
      base = base;
      added = omega (arith, base, pow_pos b, pow_mono {i = k} {j = 32} (omega (arith, s.bits-within)));
    }

pub ready_of : {m : Modulus} {b L k q : ℕ} → Asked m b L k q → (T x y : ℕ) → T ≡ wrap_at b L (k - L * b) → x ≡ 2 ^ k → y ≡ 2 ^ b
    → Ready (record { modulus = m; log_basis = b; level_count = L; drop_bits = k - L * b; threshold = T; add = x - q; modulus_minus_basis = q - y })
unfolding dropped
ready_of {m} {b} {L} {k} {q} s T x y eT ex ey =
    record {
      sound = s.sound;
      dropped-is = ap (λ n. n - L * b) s.bits-is;
      threshold-is = eT ∙ ap (λ n. wrap_at b L (n - L * b)) s.bits-is ∙ wrap_is m b L s.sound;
      add_is = ap₂ ◌-◌ (ex ∙ ap (λ n. 2 ^ n) s.bits-is) s.size_is;
      offset_is = ap₂ ◌-◌ s.size_is ey;
    }

-- ---- where the walk of a word begins

pub dropped_most : (p : PreparedBasis) → Ready p → p.drop_bits < 32
unfolding dropped
dropped_most p r =
    omega (
      arith,
      r.dropped-is,
      r.sound.bits-within,
      mul-le-mul {n₁ = 1} {m₁ = 2} {n₂ = p.level_count} {m₂ = p.log_basis} r.sound.accepted.some_level r.sound.log_least,
    )

module _ (p : PreparedBasis) (r : Ready p) (a : ℕ) (h : a < size_of p.modulus) where
  pub adjust_fits : a + p.add < 2 ^ 32
  adjust_fits =
      omega (arith, r.add_is, r.sound.accepted.covered, pow_mono {i = (basis_in p).bits} {j = 32} r.sound.bits-within)

  -- by the constants of an accepted basis
  pub init_ready : init_from p a ≡ init_of (basis_in p) a
  unfolding adjusted
  init_ready = ap₂ (λ v d. record { value = v; carry = eqb (carry_in d v) 1 }) word r.dropped-is
    where
      word : adjust_by p.threshold p.add a ≡ pick (ltb a (threshold (basis_in p))) a (a + (2 ^ (basis_in p).bits - (basis_in p).modulus))
      word =
          ap (λ n. pick (ltb a p.threshold) a n) (mod-eq_of_lt adjust_fits)
          ∙ ap₂ (λ t n. pick (ltb a t) a (a + n)) r.threshold-is r.add_is

  pub decomposer_ready : decomposer_from p a ≡ decomposer_of (basis_in p) a
  decomposer_ready =
      ap₂ (λ s d. record { value = s.value / 2 ^ d; carry = s.carry; log_basis = p.log_basis; modulus_minus_basis = p.modulus_minus_basis }) init_ready r.dropped-is
      ∙ ap (λ o. record { value = adjusted (basis_in p) a / 2 ^ dropped (basis_in p); carry = first_carry (basis_in p) a; log_basis = p.log_basis; modulus_minus_basis = o }) r.offset_is

-- the constants of an accepted basis are those of its definition
pub prepared_is : (p : PreparedBasis) → Ready p → p ≡ prepared_of p.modulus p.log_basis p.level_count
prepared_is p r =
    ap₂ (λ d t. record { modulus = p.modulus; log_basis = p.log_basis; level_count = p.level_count; drop_bits = d; threshold = t; add = p.add; modulus_minus_basis = p.modulus_minus_basis }) r.dropped-is r.threshold-is
    ∙ ap₂ (λ a o. record { modulus = p.modulus; log_basis = p.log_basis; level_count = p.level_count; drop_bits = dropped (basis_in p); threshold = threshold (basis_in p); add = a; modulus_minus_basis = o }) r.add_is r.offset_is
