-- The digits so far.
use Rattle.std.proofs.Common.{◌≡◌, ◌+◌, ◌^◌, ◌<◌, length, drop}
use Rattle.cells.proofs.scan.digit_run.Given as goal
use Rattle.cells.specs.Numbers.{digits_after}
use Rattle.cells.specs.Scans.{front}

abbrev pub invariant-loop-len : goal.invariant-loop-len
invariant-loop-len l =
    (l.value < 10 ^ l.len) × (length (front l.rest) ≡ l.len + length (front (drop l.len l.rest))) × (digits_after l.value (front (drop l.len l.rest)) ≡ digits_after 0 (front l.rest))
