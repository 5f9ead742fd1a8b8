-- A tile of up to eight ciphertexts, each a row of accumulators and a lane: its own decomposer.
use Rattle.std.specs.Prelude.{◌≡◌, false, List, ℕ, ◌+◌, ◌*◌, ◌^◌, ◌<◌, ◌≤◌, pos, ◌-ℤ◌, ◌*ℤ◌, length, get_or}
use Rattle.scheme.specs.Numbers.{Cong, tabulate, rows_of}
use Rattle.scheme.specs.Basis.{half}
use Rattle.scheme.specs.Lwe.{row_of}
use Rattle.scheme.specs.Switch.{Below, start_word, after}
use Rattle.primus_reduce.specs.Ring.{size_of}
use Rattle.gadget_digits.specs.declared.SignedDecomposer.{SignedDecomposer}
use Rattle.gadget_constants.specs.declared.prepared.PreparedBasis.{PreparedBasis}
use Rattle.gadget_digits.specs.Step.{step_of}
use Rattle.gadget_constants.specs.Prepared.{Ready, basis_in}
use Rattle.gadget_constants.specs.Word.{decomposer_from}
use Rattle.key_switch_tile.specs.Rows.{Near}

-- the most rows of a tile
abbrev pub tile : ℕ
tile = 8

-- lane t
abbrev pub lane : List SignedDecomposer → ℕ → SignedDecomposer
lane lanes t = get_or lanes t (record { value = 0; carry = false; log_basis = 0; modulus_minus_basis = 0 })

-- ---- one level: an entry of w words, and rows of w accumulators

-- there is room for exact sums, where no accumulator grows by more than `grow`
pub record LevelRoom (q half grow w rows : ℕ) (lanes : List SignedDecomposer) (entry acc : List ℕ) : Type 0 where
  pub entries : Below q entry
  pub digits : (t : ℕ) → t < rows → Near q half (step_of (lane lanes t)).digit
  pub room : (t c : ℕ) → t < rows → c < w → get_or acc (t * w + c) 0 + grow < 2 ^ 64

-- row t loses d times the entry modulo q, and no accumulator grows by more than `grow`
pub record RowLess (q grow w d : ℕ) (entry acc acc' : List ℕ) (t : ℕ) : Type 0 where
  pub word : (c : ℕ) → c < w
      → Cong q (pos (get_or acc' (t * w + c) 0)) (pos (get_or acc (t * w + c) 0) -ℤ pos d *ℤ pos (get_or entry c 0))
  pub most : (c : ℕ) → c < w → get_or acc' (t * w + c) 0 ≤ get_or acc (t * w + c) 0 + grow

-- each row loses its own digit times the entry, and its lane moves on
pub record Leveled (q grow w rows : ℕ) (entry : List ℕ) (lanes : List SignedDecomposer) (acc : List ℕ)
    (lanes' : List SignedDecomposer) (acc' : List ℕ) : Type 0 where
  pub count : length lanes' ≡ tile
  pub same : length acc' ≡ length acc
  pub less : (t : ℕ) → t < rows → RowLess q grow w (step_of (lane lanes t)).digit entry acc acc' t
  pub moved : (t : ℕ) → t < rows → lane lanes' t ≡ (step_of (lane lanes t)).next

-- ---- all places

-- an accepted basis, `rows` ciphertexts and a key of n × L entries, with words below q
pub record Shaped (p : PreparedBasis) (n m rows : ℕ) (input key : List ℕ) : Type 0 where
  pub ready : Ready p
  pub narrow : m ≤ 2048
  pub short : n ≤ 2048
  pub inputs : length input ≡ rows * (n + 1)
  pub keyed : length key ≡ n * p.level_count * (m + 1)
  pub words : Below (size_of p.modulus) input
  pub keys : Below (size_of p.modulus) key

-- the lanes of mask place i
pub record Lanes (p : PreparedBasis) (n rows i : ℕ) (input : List ℕ) (lanes : List SignedDecomposer) : Type 0 where
  pub count : length lanes ≡ tile
  pub is : (t : ℕ) → t < rows → lane lanes t ≡ decomposer_from p (get_or input (t * (n + 1) + i) 0)

-- each row (0, b)
abbrev pub begun : ℕ → ℕ → ℕ → List ℕ → List ℕ
begun n m rows input = rows_of rows (λ t. tabulate (m + 1) (start_word n m (row_of n input t)))

-- each row stands for its state after the places below i
pub record Reached (p : PreparedBasis) (n m rows i : ℕ) (input key acc : List ℕ) : Type 0 where
  pub sized : length acc ≡ rows * (m + 1)
  pub word : (t c : ℕ) → t < rows → c < m + 1
      → Cong (size_of p.modulus) (pos (get_or acc (t * (m + 1) + c) 0))
      (after (basis_in p) n m key (row_of n input t) i c)

-- ---- one place more, modulo q, with digits within `near` of 0 or q; a level adds at most `grow`

pub record Fits (p : PreparedBasis) (m rows q near grow : ℕ) (acc : List ℕ) : Type 0 where
  pub ring : size_of p.modulus ≡ q
  pub halves : half (basis_in p) ≤ near
  pub room : (t c : ℕ) → t < rows → c < m + 1 → get_or acc (t * (m + 1) + c) 0 + p.level_count * grow < 2 ^ 64

abbrev pub Grown : ℕ → ℕ → ℕ → List ℕ → List ℕ → Type 0
Grown m rows more acc acc' =
    (t c : ℕ) → t < rows → c < m + 1 → get_or acc' (t * (m + 1) + c) 0 ≤ get_or acc (t * (m + 1) + c) 0 + more
