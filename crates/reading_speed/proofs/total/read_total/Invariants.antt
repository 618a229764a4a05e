-- The rows that are added up.
use Rattle.std.proofs.Common.{◌^◌, ◌<◌, length}
use Rattle.reading_speed.proofs.Adding.{Added}
use Rattle.reading_speed.proofs.total.read_total.Given as goal
use Rattle.sheets.specs.States.{standing}

abbrev pub invariant-loop-row : goal.invariant-loop-row
invariant-loop-row l = Added l.bytes (standing l.sheet) l.sum × (l.sum < 2 ^ 64)

abbrev pub decreases-loop-row : goal.decreases-loop-row
decreases-loop-row l = length (standing l.sheet).left
