-- A value or a fault put to those of a row. Assumes nothing.
use Rattle.std.specs.Prelude.{ℕ, Ok, Err, Result, slice_set}
use Rattle.sheet_kinds.specs.declared.fault.CellFault.{CellFault}
use Rattle.sheets.specs.declared.values.RowValues.{RowValues}

abbrev pub first_fault : Result (Unit {0}) CellFault → CellFault → Result (Unit {0}) CellFault
first_fault (Ok u) e = Err e
first_fault (Err f) e = Err f

abbrev pub put_value : RowValues → ℕ → Result ℕ CellFault → RowValues
put_value vs k (Ok v) = record { at = slice_set vs.at k v; first = vs.first }
put_value vs k (Err e) = record { at = vs.at; first = first_fault vs.first e }
