-- The rows whose numbers are written, one after another.
use Rattle.std.proofs.Common.{◌≡◌, ℕ, List}
use Rattle.host_calls.specs.Filled.{Room, put_rows}
use Rattle.sheet_kinds.specs.Tables.{Table}
use Rattle.sheets.proofs.Walks.{rows_left}
use Rattle.sheets.specs.Rows.{map_ok}
use Rattle.sheets.specs.Sheets.{sheet_rows}
use Rattle.sheets.specs.States.{Standing}

-- with the rows that s has left, the room is what all rows of the sheet make of it
pub record Filling (table : Table) (numbers : List ℕ → List ℕ) (bs : List ℕ) (s : Standing) (start now : Room ℕ) : Type 0 where
  pub rest : map_ok (put_rows numbers now) (rows_left table s) ≡ map_ok (put_rows numbers start) (sheet_rows table bs)
