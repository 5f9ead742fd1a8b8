-- What every call of a codec judges first.
use Rattle.std.specs.Prelude.{Bool, List, [], ◌∷◌, ◌++◌, ℕ}
use Rattle.scheme.specs.Checks.{Check, row, codec_rows}
use Rattle.primus_reduce.specs.Ring.{meant}
use Rattle.primus_reduce.specs.declared.modulus.Modulus.{Modulus}

-- every call judges 2, 7, 8
abbrev pub rows : ℕ → Modulus → List Check
rows t m = codec_rows t (meant m)

-- the sizes of every call; 11 applies where b holds
abbrev pub size_rows : ℕ → Modulus → Bool → List Check
size_rows t m b = rows t m ++ row b 11 ∷ []
