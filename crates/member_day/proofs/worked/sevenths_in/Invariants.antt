-- What the stretches to come add to the count so far gives what all of them count.
use Rattle.std.proofs.Common.{◌≡◌, ◌*◌, ◌≤◌, drop}
use Rattle.member_day.specs.Counts.{after_all, used}
use Rattle.member_day.specs.Runs.{runs}
use Rattle.member_day.specs.Worked.{laid_out}
use Rattle.member_day.specs.declared.direction.Direction.TheVariants.{Level}
use Rattle.member_day.proofs.worked.sevenths_in.Given as goal

abbrev pub invariant-loop-stretch : goal.invariant-loop-stretch
invariant-loop-stretch l =
    (after_all l.count (laid_out (drop l.stretch-index l.stretches)) ≡ runs Level (laid_out l.stretches))
    × (used l.count ≤ 255 * l.stretch-index)
