-- What a tile goes through: its lanes, its rows as they begin, after i places and at the end.
use Rattle.std.specs.Prelude.{List, ℕ, ◌*◌}
use Rattle.scheme.specs.Switch.{switched_batch}
use Rattle.gadget_digits.specs.declared.SignedDecomposer.{SignedDecomposer}
use Rattle.gadget_constants.specs.Prepared.{basis_in}
use Rattle.key_switch_tile.specs.declared.tile.Tile.{Tile}
use Rattle.key_switch_tile.specs.Tile.{Lanes, begun, Reached, Fits, Grown}

abbrev pub LanesOf : Tile → ℕ → List SignedDecomposer → Type 0
LanesOf t i lanes = Lanes t.shape.basis t.shape.n t.rows i t.input.now lanes

abbrev pub begun_tile : Tile → List ℕ
begun_tile t = begun t.shape.n t.shape.m t.rows t.input.now

abbrev pub ReachedBy : Tile → ℕ → List ℕ → Type 0
ReachedBy t i acc = Reached t.shape.basis t.shape.n t.shape.m t.rows i t.input.now t.key.now acc

abbrev pub switched_tile : Tile → List ℕ
switched_tile t = switched_batch (basis_in t.shape.basis) t.shape.n t.shape.m t.key.now t.rows t.input.now

-- a kernel with these numbers has room for one place more, which adds at most L × grow
abbrev pub FitsTile : Tile → ℕ → ℕ → ℕ → List ℕ → Type 0
FitsTile t q near grow acc = Fits t.shape.basis t.shape.m t.rows q near grow acc

abbrev pub GrownBy : Tile → ℕ → List ℕ → List ℕ → Type 0
GrownBy t grow acc acc' = Grown t.shape.m t.rows (t.shape.basis.level_count * grow) acc acc'
