-- What a length is judged by.
use Rattle.std.specs.Prelude.{List, [], ◌∷◌, ℕ}
use Rattle.scheme.specs.Checks.{Check, row, dimension_fails, count_fails}

-- n: "A dimension is 0 or above 2,048."
abbrev pub dimension_rows : ℕ → List Check
dimension_rows n = row (dimension_fails n) 6 ∷ []

-- n, and `count` bodies: "packed messages or bodies number more than n"
abbrev pub packed_rows : ℕ → ℕ → List Check
packed_rows n count = row (dimension_fails n) 6 ∷ row (count_fails count n) 10 ∷ []
