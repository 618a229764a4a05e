-- What holds each turn: the total of the weights so far, held in 64 bits. Assumes nothing.
use Rattle.std.proofs.Common.{◌≡◌, ◌-◌, ◌^◌, min, take, sum}
use Rattle.parting.proofs.asked.total_of.Given as goal

abbrev pub invariant-loop-weight : goal.invariant-loop-weight
invariant-loop-weight l = l.total ≡ min (sum (take l.weight-index l.weights)) (2 ^ 64 - 1)
