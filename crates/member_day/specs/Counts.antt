-- What a count of runs comes to. Assumes nothing.
use Rattle.std.specs.Prelude.{ℕ, ◌+◌, ◌*◌, ◌/◌, List}
use Rattle.std.specs.List.{prefix_len}
use Rattle.member_day.specs.Runs.{goes_on, runs}
use Rattle.member_day.specs.declared.direction.Direction.{Direction}
use Rattle.member_day.specs.declared.runs.RunCount.{RunCount}

-- what blocks to come add, where the run before them is of this direction and length
abbrev pub coming : Direction → ℕ → List Direction → ℕ
coming before length ds = (length + prefix_len (goes_on before) ds) / 7 + runs before ds

-- what a count comes to after these blocks
abbrev pub after_all : RunCount → List Direction → ℕ
after_all c ds = c.counted + coming c.before c.length ds

-- the blocks that the runs of a count take up, rounded down to sevenths where a run has ended
abbrev pub used : RunCount → ℕ
used c = 7 * c.counted + c.length
