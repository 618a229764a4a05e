-- A cell of the code read as plain data. Assumes nothing.
use Rattle.std.specs.Prelude.{length}
use Rattle.cells.specs.Cells.{CellShown}
use Rattle.cells.specs.Numbers.{Meaning, number, empty, other}
use Rattle.cells.specs.declared.cell.Cell.TheVariants.{Number, Empty, Other}
use Rattle.cells.specs.declared.cell.Cell.{Cell}
use Rattle.cells.specs.declared.cell.CellBytes.{CellBytes}

abbrev pub shown_as : CellBytes → Meaning → CellShown
shown_as c m = record { bytes = c.bytes.now; start = c.start; len = length c.bytes.now; means = m }

abbrev pub shown : Cell → CellShown
shown (Number c v) = shown_as c (number v)
shown (Empty c) = shown_as c empty
shown (Other c) = shown_as c other

-- its bytes, whatever they mean
abbrev pub bytes_of : Cell → CellBytes
bytes_of (Number c v) = c
bytes_of (Empty c) = c
bytes_of (Other c) = c
