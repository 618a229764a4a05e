-- What was called for at the places so far is written. Assumes nothing.
use Rattle.std.proofs.Common.{ℕ, ◌<◌, get_or}
use Rattle.sharing.specs.Sides.{no_charge}
use Rattle.sharing.proofs.lines.write_each.Given as goal

abbrev pub invariant-loop-place : goal.invariant-loop-place
invariant-loop-place g l = (k : ℕ) (d : _) → k < l.place → goal.F-post g l.f k (get_or l.charges k no_charge) (get_or l.into k d)
