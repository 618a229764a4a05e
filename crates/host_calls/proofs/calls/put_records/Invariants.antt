-- With the records that are left, the room is what all of them make of it.
use Rattle.host_calls.proofs.calls.put_records.Given as goal
use Rattle.host_calls.specs.Called.{record_numbers}
use Rattle.host_calls.specs.Filled.{put_rows, SamePlace, so_far}
use Rattle.std.proofs.Common.{◌≡◌, drop}

abbrev pub invariant-loop-record : goal.invariant-loop-record
invariant-loop-record l =
    (put_rows record_numbers (so_far l.room) (drop l.record-index l.records) ≡ put_rows record_numbers (so_far l.initial.room) l.records)
    × SamePlace l.initial.room l.room
