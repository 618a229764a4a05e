-- Each row taken leaves one line less, and its numbers are written.
use Rattle.host_calls.proofs.Filling.{Filling}
use Rattle.host_calls.proofs.readers.put_rows.Given as goal
use Rattle.host_calls.specs.Filled.{SamePlace, so_far}
use Rattle.sheets.specs.Rows.{by_place}
use Rattle.sheets.specs.States.{standing}
use Rattle.std.proofs.Common.{length}

abbrev pub invariant-loop-row : goal.invariant-loop-row
invariant-loop-row g l =
    SamePlace l.initial.room l.room × Filling g.K.SheetKind.table (λ v. g.R.Numbers.listed (g.K.SheetKind.row_of (by_place v))) l.bytes (standing l.sheet) (so_far l.initial.room) (so_far l.room)

abbrev pub decreases-loop-row : goal.decreases-loop-row
decreases-loop-row g l = length (standing l.sheet).left
