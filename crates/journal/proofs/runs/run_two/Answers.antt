-- Two lawful runs by alike tariffs and rules have equal records on alike days.
use Rattle.std.proofs.Common.{reverse, take}
use Rattle.journal.proofs.Days.{same_days}
use Rattle.journal.proofs.runs.run_two.Goals as goal

pub returns-clause-same : goal.returns-clause-same
returns-clause-same g c =
    let J = reverse (take c.run.result.1 c.run.new.journal) in
    let J' = reverse (take c.run-2.result.1 c.run-2.new.journal) in
    λ tariffs rules. same_days (g.T.Tariff.meaning c.args.one.tariff) (g.U.Tariff.meaning c.args.other.tariff) (g.R.PartingRule.shares c.args.one.rule) (g.S.PartingRule.shares c.args.other.rule) J J' tariffs rules c.run.ensures.law.each c.run-2.ensures.law.each
