-- The names that are done.
use Rattle.cells.specs.Cells.{texts}
use Rattle.cells.specs.Left.{cells_left}
use Rattle.sheets.proofs.Listing.{Listing}
use Rattle.sheets.proofs.names.columns_of.Given as goal
use Rattle.std.proofs.Common.{length}

abbrev pub invariant-loop-i : goal.invariant-loop-i
invariant-loop-i g l =
    Listing g.K.SheetKind.table.names (texts (cells_left l.initial.cells)) (texts (cells_left l.cells)) (length g.K.SheetKind.table.names) l.i l.at
