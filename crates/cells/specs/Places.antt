-- What comes next in a line, and where it starts. Assumes nothing.
use Rattle.std.specs.Prelude.{ℕ, ◌+◌, cond, List, length, ◌==◌, nat_lt, slice_index}
use Rattle.cells.specs.Cells.{comma}
use Rattle.cells.specs.declared.line.Next.TheVariants.{Cell, Line}
use Rattle.cells.specs.declared.line.Next.{Next}

abbrev pub place : Next → ℕ
place (Cell at) = at
place (Line at) = at

-- what comes after the cell that ends at end: a cell after a comma, else a line
abbrev pub next_at : List ℕ → ℕ → Next
next_at bs end =
    cond (nat_lt end (length bs)) (cond (slice_index bs end == comma) (Cell (end + 1)) (Line (end + 1))) (Line (length bs))

-- what comes first in the line that starts at a place: past the end there is no line
abbrev pub start_of : List ℕ → ℕ → Next
start_of bs at = cond (nat_lt at (length bs)) (Cell at) (Line (length bs))
