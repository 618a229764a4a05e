-- The columns of the code as a list. Assumes nothing.
use Rattle.std.specs.Prelude.{ℕ, List, take}
use Rattle.sheets.specs.declared.columns.Columns.{Columns}

abbrev pub column_list : Columns → List ℕ
column_list o = take o.len o.at
