-- The records of the places so far are written.
use Rattle.std.proofs.Common.{◌≡◌, ℕ, ◌<◌, get_or}
use Rattle.day.specs.Records.{nothing, record_at}
use Rattle.day.proofs.write.write_records.Given as goal

abbrev pub invariant-loop-place : goal.invariant-loop-place
invariant-loop-place l = (k : ℕ) → k < l.place → get_or l.record-items k nothing ≡ record_at l.dues l.lines k
