-- The members so far are cleared.
use Rattle.std.proofs.Common.{◌≡◌, ◌++◌, map, length, take, drop}
use Rattle.pool.specs.Tables.{cleared}
use Rattle.pool.proofs.entering.clear_all.Given as goal

abbrev pub invariant-loop-member : goal.invariant-loop-member
invariant-loop-member l =
    (l.members ≡ map cleared (take l.member-index l.initial.members) ++ drop l.member-index l.initial.members)
    × (length l.members ≡ length l.initial.members)
