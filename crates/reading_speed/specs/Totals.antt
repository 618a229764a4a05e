-- The rows of a sheet of readings, counted and added up. Assumes nothing.
use Rattle.std.specs.Prelude.{ℕ, ◌+◌, ◌%◌, ◌^◌, List, [], ◌∷◌, length, slice_index}
use Rattle.reading_speed.specs.declared.total.Total.{Total}

-- the five numbers of a row
abbrev pub row_sum : List ℕ → ℕ
row_sum v = slice_index v 0 + slice_index v 1 + slice_index v 2 + slice_index v 3 + slice_index v 4

-- the numbers of all rows
abbrev pub rows_sum : List (List ℕ) → ℕ
rows_sum [] = 0
rows_sum (v ∷ vs) = row_sum v + rows_sum vs

abbrev pub total_of : List (List ℕ) → Total
total_of vs = record { rows = length vs; sum = rows_sum vs % 2 ^ 64 }
