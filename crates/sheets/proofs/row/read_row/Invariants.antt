-- The cells that are read.
use Rattle.cells.specs.Cells.{texts}
use Rattle.cells.specs.Left.{cells_left, SameSheet}
use Rattle.sheets.proofs.Reading.{Reading}
use Rattle.sheets.proofs.row.read_row.Given as goal
use Rattle.sheets.specs.Listed.{column_list}

abbrev pub invariant-loop-i : goal.invariant-loop-i
invariant-loop-i g l =
    Reading g.K.SheetKind.table l.number (column_list l.columns) (texts (cells_left l.initial.cells)) (texts (cells_left l.cells)) l.columns.len l.i l.values
    × SameSheet l.initial.cells l.cells
