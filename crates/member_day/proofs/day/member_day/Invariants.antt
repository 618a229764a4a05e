-- What the blocks to come add to the sums so far gives the due of the day.
use Rattle.std.specs.Iterator.Adapters.{zip_first, zip_second}
use Rattle.std.specs.Slice.Iter.{iter_rest}
use Rattle.member_day.proofs.DaySteps.{Underway}
use Rattle.member_day.proofs.day.member_day.Given as goal

abbrev pub invariant-loop-reading : goal.invariant-loop-reading
invariant-loop-reading g l = record {
  can_go_on : (goal.iterator-loop-reading g).can_next l.reading-iterator;
  ends : (goal.iterator-loop-reading g).is_finite l.reading-iterator;
  underway : Underway (g.T.Tariff.meaning l.tariff) l.kind l.readings l.grid (iter_rest (zip_first l.reading-iterator)) (iter_rest (zip_second l.reading-iterator)) l.base l.runs;
}
