-- What a line of values says. Assumes nothing.
use Rattle.std.specs.Prelude.{ℕ, ◌+◌, Bool, cond, List, [], ◌∷◌, length, replicate, Ok, Err, Result, ◌==◌, slice_index, slice_set}
use Rattle.cells.specs.Numbers.{Meaning, number, empty, other, meaning}
use Rattle.sheet_kinds.specs.Tables.{Table}
use Rattle.sheet_kinds.specs.declared.fault.CellCause.TheVariants.{Empty, NotNumber}
use Rattle.sheet_kinds.specs.declared.fault.CellFault.{CellFault}
use Rattle.sheet_kinds.specs.declared.fault.RowFault.TheVariants.{Count, Cell}
use Rattle.sheet_kinds.specs.declared.fault.RowFault.{RowFault}
use Rattle.sheet_kinds.specs.declared.fault.Spot.{Spot}

abbrev pub map_ok : {X Y E : Type 0} → (X → Y) → Result X E → Result Y E
map_ok f (Ok x) = Ok (f x)
map_ok f (Err e) = Err e

-- the value of a cell, or its fault
abbrev pub value_of : Meaning → Bool → Spot → Result ℕ CellFault
value_of (number v) may spot = Ok v
value_of empty may spot = cond may (Ok 0) (Err (record { spot = spot; cause = Empty }))
value_of other may spot = Err (record { spot = spot; cause = NotNumber })

-- go on, unless a cell has a fault
abbrev pub and_cell : {X Y : Type 0} → Result X CellFault → (X → Result Y RowFault) → Result Y RowFault
and_cell (Ok v) k = k v
and_cell (Err e) k = Err (Cell e)

-- the values by the table's columns, from the cells i, i + 1, .. of a line
abbrev pub read_cells : Table → ℕ → List ℕ → ℕ → List (List ℕ) → List ℕ → Result (List ℕ) RowFault
read_cells table line [] i cells values = Ok values
read_cells table line (k ∷ ks) i [] values = Ok values
read_cells table line (k ∷ ks) i (c ∷ cs) values =
    and_cell (value_of (meaning c) (table.optional k) (record { sheet = table.number; line = line; cell = i })) (λ v. read_cells table line ks (i + 1) cs (slice_set values k v))

-- the values of a line: as many cells as columns, each a number or an empty cell that may be
abbrev pub read_row : Table → ℕ → List ℕ → List (List ℕ) → Result (List ℕ) RowFault
read_row table line columns cells =
    cond (length cells == length columns) (read_cells table line columns 1 cells (replicate (length columns) 0)) (Err (Count table.number line))

-- values by the place of their names in the table
abbrev pub by_place : List ℕ → ℕ → ℕ
by_place v k = slice_index v k
