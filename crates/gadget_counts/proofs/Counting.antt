-- The loops over digits and over words.
-- Assumes nothing.
use Rattle.std.proofs.Common.{◌≡◌, refl, sym, ap, ap₂, ◌∙◌, add-one, ℕ, ◌+◌, ◌-◌, ◌*◌, ◌/◌, ◌^◌, ◌<◌, ◌≤◌, true, not, ◌==◌, List, length, get_or, replicate, arith, pow_mono}
use native.Mathlib.Decide.{ℕ_discrete}
use native.Mathlib.Nat.{mul-le-mul, mul_assoc, mul-one, pow-suc, pow-zero}
use lib.ListN.{set, length-set, length-replicate}
use lib.Seq.{get_or-set_same, get_or-set_other}
use Rattle.std.proofs.lemmas.List.{get_or-replicate}
use lib.Dec.{eqb}
use borrow.Author.Tests.{eq-eqb, ne_eqb}
use Rattle.scheme.specs.Numbers.{sum_ℕ}
use Rattle.scheme.specs.Basis.{Basis, base, half, dropped}
use Rattle.scheme.specs.Digits.{digit}
use Rattle.scheme.specs.Counts.{one_if, not_zero, nonzero, count_below, count_of, counts_of, choose, closed}
use Rattle.scheme.proofs.Stored.{stored_zero}
use Rattle.scheme.proofs.Reading.{even, digit-range}
use Rattle.scheme.proofs.Lists.{is_tabulate}
use Rattle.scheme.proofs.Naturals.{ones_most, choose_some, choose_most, choose_next}
use Rattle.scheme.proofs.Counts.{nonzero_next, count_next, count_none, count_closed, count_word}
use Rattle.scheme.proofs.Modulus.{full}
use Rattle.scheme.specs.Modulus as S
use Rattle.scheme.specs.Modulus.{bits}
use Rattle.primus_reduce.specs.Ring.{meant, size_of, power_of_two}
use Rattle.primus_reduce.specs.declared.modulus.Modulus.{Modulus}
use Rattle.primus_reduce.specs.declared.modulus.Modulus.TheVariants.{Native, Explicit}
use Rattle.gadget_digits.specs.declared.SignedDecomposer.{SignedDecomposer}
use Rattle.gadget_digits.specs.Step.{step_of, decomposer_of}
use Rattle.gadget_digits.specs.Column.{after, step_digit}
use Rattle.gadget_constants.specs.declared.prepared.PreparedBasis.{PreparedBasis}
use Rattle.gadget_constants.specs.Prepared.{Ready, basis_in}
use Rattle.gadget_constants.proofs.Columns.{step_digits}

-- how many of the digits below j are not zero
abbrev pub Stepped : PreparedBasis → ℕ → ℕ → ℕ → Type 0
Stepped p a j n = n ≡ sum_ℕ j (λ i. one_if (not_zero (digit (basis_in p) a i)))

pub stepped_none : (p : PreparedBasis) (a : ℕ) → Stepped p a 0 0
unfolding sum_ℕ
stepped_none p a = refl

-- within what a word counts
pub stepped_few : (p : PreparedBasis) (a j n : ℕ) → Stepped p a j n → n ≤ j
stepped_few p a j n s = omega (arith, s, ones_most j (λ i. not_zero (digit (basis_in p) a i)))

module _ (p : PreparedBasis) (r : Ready p) where
  pub levels_few : p.level_count ≤ 16
  levels_few =
      omega (arith, r.sound.levels-within, r.sound.bits-within, mul-le-mul {n₁ = p.level_count} {m₁ = 2} {n₂ = p.level_count} {m₂ = p.log_basis} (omega arith) r.sound.log_least)

  pub stepped_next : (a j n m : ℕ) (d e : SignedDecomposer) → j < p.level_count → d ≡ decomposer_of (basis_in p) a → e ≡ after j d
      → m ≡ one_if (not ((step_of e).digit == 0)) → Stepped p a j n → Stepped p a (j + 1) (n + m)
  stepped_next a j n m d e l f g h s = rw (s, h, same) (sym (nonzero_next (basis_in p) a j))
    where
      same : one_if (not (eqb (step_of e).digit 0)) ≡ one_if (not_zero (digit (basis_in p) a j))
      same =
          ap (λ x. one_if (not (eqb (step_of x).digit 0))) g
          ∙ ap (λ x. one_if (not (eqb (step_digit x j) 0))) f
          ∙ ap (λ x. one_if (not (eqb x 0))) (step_digits p r a j l)
          ∙ ap one_if (stored_zero (basis_in p).modulus (half (basis_in p)) (digit (basis_in p) a j)
          (omega (arith, even (basis_in p) r.sound.accepted, r.sound.accepted.fits)) (digit-range (basis_in p) r.sound.accepted a j))

-- the counts of the words below a
pub record Counted (b : Basis) (a : ℕ) (out : List ℕ) : Type 0 where
  pub sized : length out ≡ b.levels + 1
  pub counts : (j : ℕ) → j < b.levels + 1 → get_or out j 0 ≡ count_below b a j

pub counted_none : (b : Basis) (n : ℕ) (out : List ℕ) → n ≡ b.levels + 1 → out ≡ replicate n 0 → Counted b 0 out
counted_none b n out e f =
    record {
      sized = ap length f ∙ length-replicate n 0 ∙ e;
      counts = λ j h. ap (λ xs. get_or xs j 0) f ∙ get_or-replicate n j 0 0 (omega arith) ∙ sym (count_none b j);
    }

pub counted_next : (b : Basis) (a n : ℕ) (out : List ℕ) → n ≡ nonzero b a → Counted b a out → Counted b (a + 1) (set out n (get_or out n 0 + 1))
counted_next b a n out e c =
    record {
      sized = length-set out n (get_or out n 0 + 1) ∙ c.sized;
      counts = λ j h. go j h (ℕ_discrete n j);
    }
  where
    go : (j : ℕ) → j < b.levels + 1 → Dec (n ≡ j) → get_or (set out n (get_or out n 0 + 1)) j 0 ≡ count_below b (a + 1) j
    go j h (yes f) =
        ap (λ m. get_or (set out m (get_or out m 0 + 1)) j 0) f
        ∙ get_or-set_same out j (get_or out j 0 + 1) 0 (omega (arith, c.sized))
        ∙ ap (λ m. m + 1) (c.counts j h)
        ∙ ap (λ m. count_below b a j + one_if m) (sym (eq-eqb (nonzero b a) j (sym e ∙ f)))
        ∙ sym (count_next b a j)
    go j h (no f) =
        get_or-set_other out n j (get_or out n 0 + 1) 0 (λ z. f (sym z))
        ∙ c.counts j h
        ∙ (omega (arith, count_next b a j, ap one_if (ne_eqb (nonzero b a) j (λ z. f (e ∙ z)))))

pub counted_all : (b : Basis) (a : ℕ) (out : List ℕ) → a ≡ b.modulus → Counted b a out → out ≡ counts_of b
counted_all b a out e c = is_tabulate (b.levels + 1) (count_of b) out c.sized (λ j h. c.counts j h ∙ ap (λ n. count_below b n j) e)

-- ---- the closed form

-- the running numbers before count j
pub record Running (p : PreparedBasis) (j others ways words : ℕ) (out : List ℕ) : Type 0 where
  pub sized : length out ≡ p.level_count + 1
  pub factor : others ≡ base (basis_in p) - 1
  pub ways_are : ways ≡ choose p.level_count j
  pub words_are : words ≡ 2 ^ dropped (basis_in p) * (base (basis_in p) - 1) ^ j
  pub counts : (i : ℕ) → i < j → get_or out i 0 ≡ count_of (basis_in p) i

pub running_none : (p : PreparedBasis) → Ready p → (out : List ℕ) → length out ≡ p.level_count + 1
    → (B D : ℕ) → B ≡ 2 ^ p.log_basis → D ≡ 2 ^ p.drop_bits → Running p 0 (B - 1) 1 D out
unfolding choose
running_none p r out e B D eB eD =
    record {
      sized = e;
      factor = ap (λ x. x - 1) eB;
      ways_are = refl;
      words_are = eD ∙ ap (λ d. 2 ^ d) r.dropped-is ∙ rw pow-zero (sym (mul-one (2 ^ dropped (basis_in p))));
      counts = λ i h. absurd (omega arith);
    }

module _ (p : PreparedBasis) (r : Ready p) (full : (basis_in p).modulus ≡ 2 ^ (basis_in p).bits) (j others ways words : ℕ) (out : List ℕ)
    (h : j < p.level_count + 1) (s : Running p j others ways words out) where
  pub product_is : ways * words ≡ count_of (basis_in p) j
  unfolding closed
  product_is =
      ap₂ ◌*◌ s.ways_are s.words_are
      ∙ law (choose p.level_count j) (2 ^ dropped (basis_in p)) ((base (basis_in p) - 1) ^ j)
      ∙ sym (count_closed (basis_in p) r.sound.accepted full j)
    where
      law : (x y z : ℕ) → x * (y * z) ≡ y * (x * z)
      law x y z = omega arith

  pub product_fits : ways * words < 2 ^ 32
  product_fits =
      omega (arith, product_is, count_word (basis_in p) r.sound.accepted j (omega arith), pow_mono {i = (basis_in p).bits} {j = 32} r.sound.bits-within)

  some_ways : 1 ≤ ways
  some_ways = rw s.ways_are (choose_some p.level_count j (omega arith))

  pub words_fit : words * others < 2 ^ 64
  words_fit =
      omega (
        arith,
        product_fits,
        mul-le-mul {n₁ = 1} {m₁ = words} {n₂ = ways} {m₂ = words} some_ways (omega arith),
        mul-le-mul {n₁ = words} {m₁ = others} {n₂ = 2 ^ 32 - 1} {m₂ = 2 ^ 32} (omega (arith, product_fits, mul-le-mul {n₁ = 1} {m₁ = words} {n₂ = ways} {m₂ = words} some_ways (omega arith))) narrow,
      )
    where
      narrow : others ≤ 2 ^ 32
      narrow = omega (arith, s.factor, pow_mono {i = p.log_basis} {j = 32} (omega (arith, r.sound.log_most)))

  pub ways_fit : ways * (p.level_count - j) < 2 ^ 64
  ways_fit =
      omega (arith, mul-le-mul {n₁ = ways} {m₁ = p.level_count - j} {n₂ = 2 ^ 16} {m₂ = 16} most (omega (arith, levels_few p r)))
    where
      most : ways ≤ 2 ^ 16
      most = omega (arith, s.ways_are, choose_most p.level_count j, pow_mono {i = p.level_count} {j = 16} (levels_few p r))

  pub running_next : Running p (j + 1) others (ways * (p.level_count - j) / (j + 1)) (words * others) (set out j (ways * words))
  running_next =
      record {
        sized = length-set out j (ways * words) ∙ s.sized;
        factor = s.factor;
        ways_are = ap (λ w. w * (p.level_count - j) / (j + 1)) s.ways_are ∙ choose_next p.level_count j (omega arith);
        words_are = rw (add-one, pow-suc) (rw (s.words_are, s.factor) (mul_assoc (2 ^ dropped (basis_in p)) ((base (basis_in p) - 1) ^ j) (base (basis_in p) - 1)));
        counts = λ i k. go i k (ℕ_discrete i j);
      }
    where
      go : (i : ℕ) → i < j + 1 → Dec (i ≡ j) → get_or (set out j (ways * words)) i 0 ≡ count_of (basis_in p) i
      go i k (yes e) =
          ap (λ n. get_or (set out j (ways * words)) n 0) e
          ∙ get_or-set_same out j (ways * words) 0 (omega (arith, s.sized))
          ∙ product_is ∙ ap (count_of (basis_in p)) (sym e)
      go i k (no e) = get_or-set_other out j i (ways * words) 0 e ∙ s.counts i (omega arith)

pub running_all : (p : PreparedBasis) (j others ways words : ℕ) (out : List ℕ) → p.level_count + 1 ≤ j → Running p j others ways words out
    → out ≡ counts_of (basis_in p)
running_all p j others ways words out h s = is_tabulate (p.level_count + 1) (count_of (basis_in p)) out s.sized (λ i k. s.counts i (omega arith))

-- where the closed form holds
pub full_of : (m : Modulus) → power_of_two m ≡ true → size_of m ≡ 2 ^ bits 32 (meant m)
full_of Native e = refl
full_of (Explicit q) e = full 32 (S.Explicit q) e

pub stepped_all : (p : PreparedBasis) (a j n : ℕ) → j ≡ p.level_count → Stepped p a j n → n ≡ nonzero (basis_in p) a
unfolding nonzero
stepped_all p a j n e s = s ∙ ap (λ l. sum_ℕ l (λ i. one_if (not_zero (digit (basis_in p) a i)))) e
