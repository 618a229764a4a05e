-- Partings worked by hand. Assumes nothing.
use Rattle.std.specs.Prelude.{◌≡◌, [], ◌∷◌}
use Rattle.parting.specs.LargestRemainder.{largest_remainder}
use Rattle.parting.specs.Running.{running}

-- 10 by equal weights is 3 each with the remainder 1 each: the odd paisa goes to the lowest place.
abbrev pub TenByLargestRemainder : Type 0
TenByLargestRemainder = largest_remainder 10 (1 ∷ 1 ∷ 1 ∷ []) ≡ 4 ∷ 3 ∷ 3 ∷ []

-- The running totals are 3, 6 and 10: the odd paisa goes to the last.
abbrev pub TenByRunning : Type 0
TenByRunning = running 10 (1 ∷ 1 ∷ 1 ∷ []) ≡ 3 ∷ 3 ∷ 4 ∷ []

-- The total is 9,750. Rounded down the shares are 3,069, 2,046, 3,769 and 1,615, with the remainders
-- 2,250, 1,500, 2,250 and 3,750: one paisa is left over, and the fourth has the largest remainder.
abbrev pub PayablesByLargestRemainder : Type 0
PayablesByLargestRemainder = largest_remainder 10500 (2850 ∷ 1900 ∷ 3500 ∷ 1500 ∷ []) ≡ 3069 ∷ 2046 ∷ 3769 ∷ 1616 ∷ []
