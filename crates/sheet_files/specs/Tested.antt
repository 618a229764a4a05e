-- What three sheets say together. Assumes nothing.
use Rattle.std.specs.Prelude.{ℕ, List, length, Result}
use Rattle.sheet_kinds.specs.Tables.{members, grid, readings}
use Rattle.sheet_kinds.specs.declared.fault.SheetFault.{SheetFault}
use Rattle.sheets.specs.Rows.{map_ok}
use Rattle.sheets.specs.Sheets.{and_then, sheet_rows}
use Rattle.sheet_files.specs.declared.tested.Counts.{Counts}

-- the counts of their rows, or the first fault of the first sheet that has one
abbrev pub tested : List ℕ → List ℕ → List ℕ → Result Counts SheetFault
tested ms gs rs =
    and_then (map_ok length (sheet_rows members ms)) (λ m.
    and_then (map_ok length (sheet_rows grid gs)) (λ g.
    map_ok (λ r. record { members = m; grid = g; readings = r }) (map_ok length (sheet_rows readings rs))))
