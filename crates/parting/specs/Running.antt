-- The shares of the running rule. Assumes nothing.
use Rattle.std.specs.Prelude.{ℕ, ◌+◌, ◌-◌, ◌*◌, ◌/◌, List, take, sum}
use Rattle.parting.specs.Places.{by_place}

-- By hand: go down the members and keep a running total of their weights. At each, multiply the total so far
-- by the sum, divide by the total of all, and drop the fraction. The share is that less what the line before had.

-- what the first k members get together
unfoldable pub running_total : ℕ → List ℕ → ℕ → ℕ
running_total amount ws k = sum (take k ws) * amount / sum ws

-- what the member at k gets: the step from the total before
unfoldable pub running_share : ℕ → List ℕ → ℕ → ℕ
running_share amount ws k = running_total amount ws (k + 1) - running_total amount ws k

abbrev pub running : ℕ → List ℕ → List ℕ
running amount ws = by_place ws (running_share amount ws)
