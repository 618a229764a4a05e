-- The rows that are counted.
use Rattle.sheets.proofs.Counts.{Counted}
use Rattle.sheets.proofs.whole.count_rows.Given as goal
use Rattle.sheets.specs.States.{standing}
use Rattle.std.proofs.Common.{length}

abbrev pub invariant-loop-row : goal.invariant-loop-row
invariant-loop-row g l = Counted g.K.SheetKind.table l.bytes (standing l.sheet)

abbrev pub decreases-loop-row : goal.decreases-loop-row
decreases-loop-row g l = length (standing l.sheet).left
