-- The rows of a sheet counted, line after line.
use Rattle.std.proofs.Common.{◌≡◌, ℕ, ◌+◌, ◌-◌, ◌≤◌, List, length}
use Rattle.sheet_kinds.specs.Tables.{Table}
use Rattle.sheets.proofs.Walks.{rows_left}
use Rattle.sheets.specs.Rows.{map_ok}
use Rattle.sheets.specs.Sheets.{sheet_rows}
use Rattle.sheets.specs.States.{Standing}

-- the rows before s and those that are left are those of the sheet
pub record Counted (table : Table) (bs : List ℕ) (s : Standing) : Type 0 where
  pub begun : 2 ≤ s.line
  pub rest : map_ok (λ vs. s.line - 2 + length vs) (rows_left table s) ≡ map_ok length (sheet_rows table bs)
