-- The mask products of packed bodies.
use Rattle.std.specs.Prelude.{ℕ, ℤ, length}
use Rattle.scheme.specs.Lwe.{words, rotated}
use Rattle.lwe_packing.specs.declared.packed.Rotation.{Rotation}

-- the product of the key and the mask rotated right by i
abbrev pub rotated_by : Rotation → ℕ → ℤ
rotated_by r i = rotated (length r.mask.now) r.mask.now (words r.secret.now) i
