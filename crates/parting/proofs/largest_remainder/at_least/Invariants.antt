-- What holds each turn: how many come to so much so far. Assumes nothing.
use Rattle.std.proofs.Common.{◌≡◌, ◌≤◌, count_by, nat_le, take}
use Rattle.parting.proofs.largest_remainder.at_least.Given as goal

abbrev pub invariant-loop-rest : goal.invariant-loop-rest
invariant-loop-rest l = (l.count ≡ count_by (nat_le l.least) (take l.rest-index l.rests)) × (l.count ≤ l.rest-index)
