-- What holds each turn of the running rule. Assumes nothing.
use Rattle.std.proofs.Common.{◌≡◌, ℕ, ◌+◌, ◌*◌, ◌<◌, ◌≤◌, get_or, take, sum}
use Rattle.parting.specs.Running.{running_share}
use Rattle.parting.proofs.running.RunningPartingRule.part.Given as goal

-- the total, what was seen and given so far, which is the exact total rounded down, and each share that is written
abbrev pub invariant-loop-place : goal.invariant-loop-place
invariant-loop-place l =
    (l.total ≡ sum l.weights)
    × (l.seen ≡ sum (take l.place l.weights))
    × (l.given * l.total ≤ l.seen * l.amount)
    × (l.seen * l.amount < (l.given + 1) * l.total)
    × ((k : ℕ) → k < l.place → get_or l.into k 0 ≡ running_share l.amount l.weights k)
