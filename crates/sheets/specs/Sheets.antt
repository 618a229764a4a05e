-- What a whole sheet says: its rows, or its first fault. Assumes nothing.
use Rattle.std.specs.Prelude.{ℕ, ◌+◌, ◌-◌, cond, ◌&&◌, List, [], ◌∷◌, length, drop, Some, None, Ok, Err, Option, Result, ◌==◌, nat_lt, slice_index}
use Rattle.cells.specs.Cells.{cells, lines, line_feed}
use Rattle.cells.specs.Left.{first_cells, others}
use Rattle.sheet_kinds.specs.Tables.{Table}
use Rattle.sheet_kinds.specs.declared.fault.RowFault.{RowFault}
use Rattle.sheet_kinds.specs.declared.fault.SheetFault.TheVariants.{Long, Unended, Names, Row}
use Rattle.sheet_kinds.specs.declared.fault.SheetFault.{SheetFault}
use Rattle.sheets.specs.Columns.{columns_of}
use Rattle.sheets.specs.Rows.{map_ok, read_row}

abbrev pub most_bytes : ℕ
most_bytes = 65536

-- the bytes that may stand before the names: EF BB BF
abbrev pub mark_len : List ℕ → ℕ
mark_len bs = cond (slice_index bs 0 == 239 && (slice_index bs 1 == 187 && slice_index bs 2 == 191)) 3 0

-- where the names start, or what is wrong with the size or the last byte
abbrev pub opening : ℕ → List ℕ → Result ℕ SheetFault
opening number bs =
    cond (nat_lt most_bytes (length bs)) (Err (Long number))
    (cond (slice_index bs (length bs - 1) == line_feed) (Ok (mark_len bs)) (Err (Unended number)))

-- the lines of a sheet, that of the names first
abbrev pub sheet_lines : ℕ → List ℕ → Result (List (List ℕ)) SheetFault
sheet_lines number bs = map_ok (λ at. lines (drop at bs)) (opening number bs)

module _ {X Y : Type 0} where
  -- go on, unless there is a fault
  abbrev pub and_then : Result X SheetFault → (X → Result Y SheetFault) → Result Y SheetFault
  and_then (Ok v) k = k v
  and_then (Err e) k = Err e

  abbrev pub and_row : Result X RowFault → (X → Result Y SheetFault) → Result Y SheetFault
  and_row (Ok v) k = k v
  and_row (Err e) k = Err (Row e)

abbrev pub or_names : ℕ → Option (List ℕ) → Result (List ℕ) SheetFault
or_names number (Some columns) = Ok columns
or_names number None = Err (Names number)

-- the columns that the cells of the names give
abbrev pub names_columns : Table → List (List ℕ) → Result (List ℕ) SheetFault
names_columns table cells = or_names table.number (columns_of table.names cells)

-- the values of each line, line after line
abbrev pub rows_from : Table → List ℕ → ℕ → List (List ℕ) → Result (List (List ℕ)) SheetFault
rows_from table columns line [] = Ok []
rows_from table columns line (l ∷ ls) =
    and_row (read_row table line columns (cells l)) (λ v. map_ok (λ vs. v ∷ vs) (rows_from table columns (line + 1) ls))

-- the first line has the names, and the others the rows
abbrev pub from_lines : Table → List (List ℕ) → Result (List (List ℕ)) SheetFault
from_lines table ls = and_then (names_columns table (first_cells ls)) (λ columns. rows_from table columns 2 (others ls))

-- the rows of a sheet, each as its values by the table's columns, or its first fault
abbrev pub sheet_rows : Table → List ℕ → Result (List (List ℕ)) SheetFault
sheet_rows table bs = and_then (sheet_lines table.number bs) (from_lines table)
