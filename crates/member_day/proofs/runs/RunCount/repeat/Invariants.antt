-- So many blocks have been counted.
use Rattle.std.proofs.Common.{◌≡◌, ◌+◌, ◌≤◌, List, ◌++◌, replicate}
use Rattle.member_day.specs.Counts.{after_all, used}
use Rattle.member_day.specs.declared.direction.Direction.{Direction}
use Rattle.member_day.proofs.runs.RunCount.repeat.Given as goal

abbrev pub invariant-loop-block : goal.invariant-loop-block
invariant-loop-block l =
    ((ds : List Direction) → after_all l.self ds ≡ after_all l.initial.self (replicate l._block l.next ++ ds))
    × (used l.self ≤ used l.initial.self + l._block)
