-- What the states of a sheet stand for. Assumes nothing.
use Rattle.std.specs.Prelude.{ℕ, ◌+◌, List, [], ◌∷◌, drop, Some, None, Ok, Err, Option, Result}
use Rattle.cells.specs.Cells.{cells, lines}
use Rattle.cells.specs.Left.{first_cells, others}
use Rattle.sheet_kinds.specs.Tables.{Table}
use Rattle.sheet_kinds.specs.declared.fault.RowFault.{RowFault}
use Rattle.sheet_kinds.specs.declared.fault.SheetFault.{SheetFault}
use Rattle.sheets.specs.Listed.{column_list}
use Rattle.sheets.specs.Rows.{map_ok, read_row, by_place}
use Rattle.sheets.specs.Sheets.{and_then, sheet_lines, names_columns}
use Rattle.sheets.specs.declared.states.NamedSheet.{NamedSheet}
use Rattle.sheets.specs.declared.states.UnnamedSheet.{UnnamedSheet}

-- the lines of a sheet whose names are not yet accepted
abbrev pub lines_of : UnnamedSheet → List (List ℕ)
lines_of s = lines (drop s.at s.bytes.now)

-- the lines of values that are left, the number of the next one, and the columns
pub record Standing : Type 0 where
  pub left : List (List ℕ)
  pub line : ℕ
  pub columns : List ℕ

abbrev pub standing : NamedSheet → Standing
standing s = record { left = lines (drop s.at s.bytes.now); line = s.line; columns = column_list s.columns }

-- a sheet at its first line of values, or its first fault so far
abbrev pub opened : Table → List ℕ → Result Standing SheetFault
opened table bs =
    and_then (sheet_lines table.number bs) (λ ls. map_ok (λ columns. record { left = others ls; line = 2; columns = columns }) (names_columns table (first_cells ls)))

-- the row of the next line, if one is left
abbrev pub next_row : {R : Type 0} → Table → ((ℕ → ℕ) → R) → Standing → Result (Option R) RowFault
next_row table row_of s =
    elim s.left [ [] ↦ Ok None | (l ∷ ls) ↦ map_ok (λ v. Some (row_of (by_place v))) (read_row table s.line s.columns (cells l)) ]

-- one line less
abbrev pub line_less : Standing → Standing
line_less s = elim s.left [ [] ↦ s | (l ∷ ls) ↦ record { left = ls; line = s.line + 1; columns = s.columns } ]

-- a line with a fault stays
abbrev pub after_row : {R : Type 0} → Result R RowFault → Standing → Standing
after_row (Ok r) s = line_less s
after_row (Err e) s = s
