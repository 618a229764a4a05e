-- One block more: its charge and its direction go from what is left to the sums so far.
use Rattle.std.proofs.lemmas.Slice.Zip.{Zip-more}
use Rattle.facts.specs.Facts.{plain}
use Rattle.member_day.proofs.DaySteps.{one_more}
use Rattle.member_day.proofs.day.member_day.Goals as goal

pub loop-reading-preserved : goal.loop-reading-preserved
loop-reading-preserved g c =
    let loop = c.loop-reading in
    let charge = c.charge_by.ensures in
    let rows = Zip-more loop.reading-iterator c.next.new.self c.next.result (c.in-Some.reading, c.in-Some.row) c.in-Some.is c.next.ensures.steps in
    record {
      can_go_on = (tt, tt);
      ends = tt;
      underway = one_more (g.T.Tariff.meaning c.args.tariff.now) c.args.kind c.args.readings.now c.args.grid.now _ _ _ _ _ _ loop.base c.add-base.result loop.runs c.step.new.self (plain c.in_ok-facts.facts) c.charge_by.result.paise c.direction_of.result rows.0 rows.1 c.in_ok-facts.ensures.answer charge.answer charge.bounded charge.level c.add-base.ensures c.direction_of.ensures.answer c.step.ensures.after c.step.ensures.bound loop.invariant.underway;
    }
