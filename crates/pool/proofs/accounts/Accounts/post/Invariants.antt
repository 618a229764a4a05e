-- The lines so far stand on their accounts.
use Rattle.std.proofs.Common.{◌≡◌, take}
use Rattle.pool.specs.Standing.{posted}
use Rattle.pool.proofs.accounts.Accounts.post.Given as goal

abbrev pub invariant-loop-place : goal.invariant-loop-place
invariant-loop-place l = l.self.table ≡ posted l.initial.self.table (take l.place l.records)
