-- The dues and charges of the members so far are written, and whether all are entered hangs on those left.
use Rattle.std.proofs.Common.{◌≡◌, map, take, drop}
use Rattle.day.specs.Dues.{all_entered, charges_of, due_of}
use Rattle.day.proofs.dues.write_dues.Given as goal

abbrev pub invariant-loop-place : goal.invariant-loop-place
invariant-loop-place g l =
    (all_entered l.entries.grid.now (drop l.place l.entries.members.now) ≡ all_entered l.entries.grid.now l.entries.members.now)
    × (take l.place l.dues ≡ map (due_of (g.T.Tariff.meaning l.tariff) l.entries.grid.now) (take l.place l.entries.members.now))
    × (take l.place l.charges ≡ charges_of (g.T.Tariff.meaning l.tariff) l.entries.grid.now (take l.place l.entries.members.now))
