-- The shares of the largest remainder rule. Assumes nothing.
use Rattle.std.specs.Prelude.{ℕ, ◌+◌, ◌-◌, ◌*◌, ◌/◌, ◌%◌, Bool, cond, ◌&&◌, ◌||◌, List, length, sum, ◌==◌, nat_lt, slice_index}
use Rattle.parting.specs.Places.{adds, by_place, tally}

-- By hand: multiply each weight by the sum and divide by the total of the weights; the quotient is the share
-- rounded down, and note the remainder. See how many paise that leaves over. Number the members from the
-- largest remainder down, the lower place first where two are equal. As many as there are paise left over,
-- counted from the first number on, get one paisa more.

-- the exact share of the member at k, rounded down
unfoldable pub floor_at : ℕ → List ℕ → ℕ → ℕ
floor_at amount ws k = slice_index ws k * amount / sum ws

-- the remainder of that division
unfoldable pub rest_at : ℕ → List ℕ → ℕ → ℕ
rest_at amount ws k = slice_index ws k * amount % sum ws

-- the paise that the shares rounded down leave over
unfoldable pub left_over : ℕ → List ℕ → ℕ
left_over amount ws = amount - adds (floor_at amount ws) (length ws)

-- the member j with the remainder x comes before the member k with the remainder y:
-- its remainder is larger, or as large and its place is lower
abbrev pub before : ℕ → ℕ → ℕ → ℕ → Bool
before x j y k = nat_lt y x || (x == y && nat_lt j k)

-- j comes before k
abbrev pub precedes : (ℕ → ℕ) → ℕ → ℕ → Bool
precedes rest k j = before (rest j) j (rest k) k

-- how many of the first n members come before k
abbrev pub rank_among : (ℕ → ℕ) → ℕ → ℕ → ℕ
rank_among rest n k = tally (precedes rest k) n

-- how many of all members come before k
unfoldable pub rank_at : ℕ → List ℕ → ℕ → ℕ
rank_at amount ws k = rank_among (rest_at amount ws) (length ws) k

-- the share rounded down, and one paisa more for each with fewer members before it than there are paise left over
unfoldable pub largest_share : ℕ → List ℕ → ℕ → ℕ
largest_share amount ws k = floor_at amount ws k + cond (nat_lt (rank_at amount ws k) (left_over amount ws)) 1 0

abbrev pub largest_remainder : ℕ → List ℕ → List ℕ
largest_remainder amount ws = by_place ws (largest_share amount ws)
