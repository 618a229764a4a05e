-- What holds each turn while the odd paise are handed out. Assumes nothing.
use Rattle.std.proofs.Common.{◌≡◌, ℕ, ◌+◌, ◌<◌, ◌≤◌, cond, ltb, length, get_or}
use Rattle.parting.specs.LargestRemainder.{rank_among}
use Rattle.parting.proofs.largest_remainder.hand_out.Given as goal

-- the shares at lower places are done, and the others stand as they came
abbrev pub invariant-loop-place : goal.invariant-loop-place
invariant-loop-place l =
    ((j : ℕ) → j < l.place → get_or l.into j 0 ≡ get_or l.initial.into j 0 + cond (ltb (rank_among (λ i. get_or l.rests i 0) (length l.rests) j) l.left) 1 0)
    × ((j : ℕ) → l.place ≤ j → j < length l.initial.into → get_or l.into j 0 ≡ get_or l.initial.into j 0)
