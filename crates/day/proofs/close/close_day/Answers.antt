-- The records that are written where the answer is Ok keep the law.
use Rattle.std.proofs.Common.{drop, arith}
use Rattle.day.specs.Records.{record_count}
use Rattle.day.proofs.SettledDay.{settled_answer}
use Rattle.day.proofs.close.close_day.Goals as goal

pub returns-clause-law : goal.returns-clause-law
returns-clause-law g c =
    let ms = c.args.entries.now.members.now in
    let old = c.args.records.now in
    settled_answer (g.T.Tariff.meaning c.args.tariff.now) (g.met.T.Tariff.level c.args.tariff.now) c.args.entries.now.grid.now (g.R.PartingRule.shares c.args.rule.now) (g.met.R.PartingRule.fair c.args.rule.now) ms _ (drop record_count old) old c.close_with_room.result (omega arith) c.close_with_room.ensures.answer c.close_with_room.ensures.records
