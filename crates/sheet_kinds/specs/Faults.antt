-- The number of each fault and where it is. Assumes nothing.
use Rattle.std.specs.Prelude.{ℕ, List, ◌∷◌, ◌++◌, decimal}
use Rattle.sheet_kinds.specs.declared.fault.CellCause.TheVariants.{Empty, NotNumber}
use Rattle.sheet_kinds.specs.declared.fault.CellCause.{CellCause}
use Rattle.sheet_kinds.specs.declared.fault.RowFault.TheVariants.{Count, Cell}
use Rattle.sheet_kinds.specs.declared.fault.RowFault.{RowFault}
use Rattle.sheet_kinds.specs.declared.fault.SheetFault.TheVariants.{Long, Unended, Names, Row}
use Rattle.sheet_kinds.specs.declared.fault.SheetFault.{SheetFault}
use Rattle.sheet_kinds.specs.declared.fault.Spot.{Spot}

abbrev pub cause_number : CellCause → ℕ
cause_number Empty = 25
cause_number NotNumber = 26

abbrev pub row_number : RowFault → ℕ
row_number (Count sheet line) = 24
row_number (Cell f) = cause_number f.cause

abbrev pub fault_number : SheetFault → ℕ
fault_number (Long sheet) = 21
fault_number (Unended sheet) = 22
fault_number (Names sheet) = 23
fault_number (Row f) = row_number f

abbrev pub row_spot : RowFault → Spot
row_spot (Count sheet line) = record { sheet = sheet; line = line; cell = 0 }
row_spot (Cell f) = f.spot

-- the names stand on line 1
abbrev pub fault_spot : SheetFault → Spot
fault_spot (Long sheet) = record { sheet = sheet; line = 0; cell = 0 }
fault_spot (Unended sheet) = record { sheet = sheet; line = 0; cell = 0 }
fault_spot (Names sheet) = record { sheet = sheet; line = 1; cell = 0 }
fault_spot (Row f) = row_spot f

-- how a fault is printed: the sheet, the line, the cell and the number, with a comma (44) between each two
abbrev pub fault_line : SheetFault → List ℕ
fault_line f =
    decimal (fault_spot f).sheet ++ 44 ∷ (decimal (fault_spot f).line ++ 44 ∷ (decimal (fault_spot f).cell ++ 44 ∷ decimal (fault_number f)))
