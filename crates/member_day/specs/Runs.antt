-- Runs of a day: longest stretches of blocks whose deviations have one non-zero sign. Assumes nothing.
use Rattle.std.specs.Prelude.{ℕ, ◌+◌, ◌/◌, Bool, true, false, cond, List, [], ◌∷◌}
use Rattle.std.specs.List.{prefix_len}
use Rattle.facts.specs.Facts.{Facts}
use Rattle.tariff.specs.Charges.{over_by, under_by}
use Rattle.member_day.specs.declared.direction.Direction.{Direction}
use Rattle.member_day.specs.declared.direction.Direction.TheVariants.{Level, Over, Under}

-- the sign of the deviation, metered less scheduled
abbrev pub direction : Facts → Direction
direction f = cond (over_by 0 f) Over (cond (under_by 0 f) Under Level)

-- both the same way, and not level
abbrev pub goes_on : Direction → Direction → Bool
goes_on Level d = false
goes_on Over Level = false
goes_on Over Over = true
goes_on Over Under = false
goes_on Under Level = false
goes_on Under Over = false
goes_on Under Under = true

-- 1 for a block that deviates
abbrev pub moves : Direction → ℕ
moves Level = 0
moves Over = 1
moves Under = 1

-- the length of the run that starts with the first of these blocks after one of the direction before:
-- 0 where none starts, else that block and all that follow it the same way
abbrev pub run_from : Direction → Direction → List Direction → ℕ
run_from before d ds = cond (goes_on before d) 0 (moves d + prefix_len (goes_on d) ds)

-- the sum over the runs of a seventh of the length, rounded down; each run is met where it starts
abbrev pub runs : Direction → List Direction → ℕ
runs before [] = 0
runs before (d ∷ ds) = run_from before d ds / 7 + runs d ds
