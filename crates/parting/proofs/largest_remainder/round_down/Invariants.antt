-- What holds each turn while the shares are rounded down. Assumes nothing.
use Rattle.std.proofs.Common.{◌≡◌, ℕ, ◌+◌, ◌<◌, get_or, sum}
use Rattle.parting.specs.LargestRemainder.{floor_at, rest_at}
use Rattle.parting.specs.Places.{adds}
use Rattle.parting.proofs.largest_remainder.round_down.Given as goal

-- the total, what is left of the amount, and what is written so far
abbrev pub invariant-loop-place : goal.invariant-loop-place
invariant-loop-place l =
    (l.total ≡ sum l.weights)
    × (l.left + adds (floor_at l.amount l.weights) l.place ≡ l.amount)
    × ((k : ℕ) → k < l.place → get_or l.into k 0 ≡ floor_at l.amount l.weights k)
    × ((k : ℕ) → k < l.place → get_or l.rests k 0 ≡ rest_at l.amount l.weights k)
