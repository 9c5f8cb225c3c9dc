-- Lists of numbers as functions of the place, and back. Assumes nothing.
use Rattle.std.specs.Prelude.{ℕ, List, map, None, Option, slice_index, slice_index_or}
use Rattle.std.specs.List.{range_with_len}

-- the number at a place, 0 past the end
abbrev pub at : List ℕ → ℕ → ℕ
at xs p = slice_index xs p

-- the number at a place that may have none, none past the end
abbrev pub maybe_at : List (Option ℕ) → ℕ → Option ℕ
maybe_at xs p = slice_index_or xs p None

-- f 0, .., f (n - 1)
unfoldable pub row : ℕ → (ℕ → ℕ) → List ℕ
row n f = map f (range_with_len 0 n)
