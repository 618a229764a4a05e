-- A day of the book is settled or refused as its entries, the records given and its charges say.
use Rattle.std.proofs.Common.{length, ap, ◌∙◌}
use Rattle.day.specs.Records.{closing}
use Rattle.pool.specs.Rules.{refusal_of}
use Rattle.pool.proofs.Settling.{part_is, refused_as, settle_is, turned}
use Rattle.pool.proofs.pool.Pool.settle.Goals as goal

pub returns-in_err-close_day-clause-answer : goal.returns-in_err-close_day-clause-answer
returns-in_err-close_day-clause-answer g c =
    let m = g.T.Tariff.meaning c.args.self.now.tariff in
    let b = c.args.self.now.book in
    let old = c.args.records.now in
    let h = c.in_err-close_day.ensures in
    turned c.from_residual.result (refusal_of c.in_err-close_day.field-0.0) c.from_residual.ensures.1
    ∙ (ap refused_as (h.answer ∙ ap (λ ms. closing m b.grid ms (length old)) (part_is b.count b.members)) ∙ settle_is m b (length old) c.args.self.now.sound)

pub returns-clause-answer : goal.returns-clause-answer
returns-clause-answer g c =
    let m = g.T.Tariff.meaning c.args.self.now.tariff in
    let b = c.args.self.now.book in
    let old = c.args.records.now in
    let h = c.in_ok-close_day.ensures in
    ap refused_as (h.answer ∙ ap (λ ms. closing m b.grid ms (length old)) (part_is b.count b.members)) ∙ settle_is m b (length old) c.args.self.now.sound
