-- How what ends the work is printed. Assumes nothing.
use Rattle.std.specs.Prelude.{ℕ, List, ◌∷◌, ◌++◌, codes, decimal, pos}
use Rattle.std.specs.Fmt.{signed_decimal}
use Rattle.pool.specs.Refusals.{refusal_number}
use Rattle.settle_day.specs.declared.stop.Stop.TheVariants.{Fault, Refused, Unclosed}
use Rattle.settle_day.specs.declared.stop.Stop.{Stop}
use Rattle.sheet_kinds.specs.Faults.{fault_line}

-- A fault by its place and number; a refusal by the sheet and the line of its numbers, the cell 0 and its number. Opening and
-- closing have no sheet: 4 stands for it, and line 0.
abbrev pub stop_line : Stop → List ℕ
stop_line (Fault fault) = fault_line fault
stop_line (Refused sheet line refusal) =
    decimal sheet ++ 44 ∷ (decimal line ++ codes ",0," ++ signed_decimal (pos (refusal_number refusal)))
stop_line (Unclosed refusal) = codes "4,0,0," ++ signed_decimal (pos (refusal_number refusal))
