-- A close is lent seventeen records, or fewer where the call lends fewer.
use Rattle.std.proofs.Common.{◌≡◌, ◌-◌, min, cond, ◌++◌, length, take, drop, is_ok, ap, ◌∙◌, arith, rules}
use Rattle.std.proofs.lemmas.List.{length-take-le}
use Rattle.day.specs.Records.{record_count}
use Rattle.pool.specs.Calls.{closed_with, closing_of, records_of}
use Rattle.journal.specs.Answers.{done}
use Rattle.journal.proofs.Lending.{closing_held, closing_room, lent_records}
use Rattle.journal.proofs.performing.close.Goals as goal

pub returns : goal.returns
returns g c =
    let m = g.T.Tariff.meaning c.args.pool.now.tariff in
    let b = c.args.pool.now.book in
    let filled = records_of m (g.R.PartingRule.shares c.args.pool.now.rule) b in
    let rs = c.args.records.now in
    let seventeen : length rs ≡ record_count = search rules in
    let k = c.min-lent.result - 0 in
    let n = c.min-lent.ensures in
    let ek : c.min-lent.result - 0 ≡ min c.args.room record_count = omega arith in
    let len : length (take (c.min-lent.result - 0) c.args.records.now) ≡ min c.args.room record_count = length-take-le k rs (omega (arith, seventeen)) ∙ ek in
    let e = c.close.ensures.answer ∙ (ap (closing_of m b) len ∙ closing_held m b c.args.room) in
    record {
      answer = c.done.ensures.answer ∙ ap done e;
      after = c.close.ensures.after ∙ ap (λ r. cond (is_ok r) (closed_with b filled) b) e;
      records = ap (λ l. l ++ drop k rs) (c.close.ensures.records ∙ ap (λ r. cond (is_ok r) (filled ++ drop record_count (take k rs)) (take k rs)) e)
          ∙ lent_records rs filled k c.args.room (is_ok (closing_of m b c.args.room)) seventeen ek (closing_room m b c.args.room);
      tariff = c.close.ensures.tariff;
      rule = c.close.ensures.rule;
    }
