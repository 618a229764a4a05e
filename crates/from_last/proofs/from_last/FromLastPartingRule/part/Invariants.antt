-- What holds each turn of the rule from the last member on. Assumes nothing.
use Rattle.std.proofs.Common.{◌≡◌, ℕ, ◌+◌, ◌*◌, ◌<◌, ◌≤◌, length, get_or, sum}
use Rattle.parting.specs.Places.{adds}
use Rattle.from_last.specs.FromLast.{share_from}
use Rattle.from_last.proofs.from_last.FromLastPartingRule.part.Given as goal

-- the total, what was seen, beside the weights to come, and given so far, which is the exact total rounded down,
-- and each share that is written
abbrev pub invariant-loop-i : goal.invariant-loop-i
invariant-loop-i l =
    (l.total ≡ sum l.weights)
    × (l.seen + adds (λ k. get_or l.weights k 0) l.i ≡ adds (λ k. get_or l.weights k 0) (length l.weights))
    × (l.given * l.total ≤ l.seen * l.amount)
    × (l.seen * l.amount < (l.given + 1) * l.total)
    × ((k : ℕ) → l.i ≤ k → k < length l.weights → get_or l.into k 0 ≡ share_from l.amount l.weights k)
