-- The shares of the running rule from the last member on. Assumes nothing.
use Rattle.std.specs.Prelude.{◌≡◌, ℕ, ◌+◌, ◌-◌, ◌*◌, ◌/◌, List, [], ◌∷◌, drop, sum}
use Rattle.parting.specs.Places.{by_place}

-- By hand: go up the members from the last and keep a running total of their weights. At each, multiply the
-- total so far by the sum, divide by the total of all, and drop the fraction. The share is that less what the
-- line before, of the next higher place, had.

-- what the members from the place k on get together
unfoldable pub total_from : ℕ → List ℕ → ℕ → ℕ
total_from amount ws k = sum (drop k ws) * amount / sum ws

-- what the member at k gets: the step from the total after
unfoldable pub share_from : ℕ → List ℕ → ℕ → ℕ
share_from amount ws k = total_from amount ws k - total_from amount ws (k + 1)

abbrev pub from_last : ℕ → List ℕ → List ℕ
from_last amount ws = by_place ws (share_from amount ws)

-- The weights from the last on add to 1,500, 5,000, 6,900 and 9,750, which reach 1,615, 5,384, 7,430 and 10,500.
abbrev pub PayablesFromLast : Type 0
PayablesFromLast = from_last 10500 (2850 ∷ 1900 ∷ 3500 ∷ 1500 ∷ []) ≡ 3070 ∷ 2046 ∷ 3769 ∷ 1615 ∷ []
