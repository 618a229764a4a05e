-- The calls so far are noted, the places beyond are as they were, and the pool stands after what was noted.
use Rattle.std.proofs.Common.{◌≡◌, reverse, take, drop}
use Rattle.journal.specs.Law.{Carries}
use Rattle.journal.proofs.Turning.{calls_of}
use Rattle.journal.proofs.runs.resume.Given as goal

abbrev pub invariant-loop-place : goal.invariant-loop-place
invariant-loop-place g l = record {
  tariff : l.pool.tariff ≡ l.initial.pool.tariff;
  rule : l.pool.rule ≡ l.initial.pool.rule;
  calls : calls_of (take l.place l.journal) ≡ take l.place l.taken;
  beyond : drop l.place l.journal ≡ drop l.place l.initial.journal;
  stands : Carries (g.T.Tariff.meaning l.initial.pool.tariff) (g.R.PartingRule.shares l.initial.pool.rule) l.initial.pool.book (reverse (take l.place l.journal)) l.pool.book;
}
