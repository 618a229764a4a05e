-- The lines after this one stay.
use Rattle.cells.proofs.line.LineCells.next_line.Given as goal
use Rattle.cells.specs.Left.{cells_left, SameSheet}
use Rattle.std.proofs.Common.{length}

abbrev pub invariant-loop-self : goal.invariant-loop-self
invariant-loop-self l = SameSheet l.initial.self l.self

abbrev pub decreases-loop-self : goal.decreases-loop-self
decreases-loop-self l = length (cells_left l.self)
