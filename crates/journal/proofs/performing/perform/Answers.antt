-- A call that is performed and noted leaves a pool that stands after it.
use Rattle.std.proofs.Common.{◌≡◌, ◌∷◌, replicate, sym, ap, ◌∙◌, subst, rules}
use Rattle.day.specs.Records.{nothing, record_count}
use Rattle.journal.specs.Law.{Stands}
use Rattle.journal.specs.Steps.{outcome}
use Rattle.journal.proofs.Keeping.{step_stands}
use Rattle.journal.proofs.performing.perform.Goals as goal

pub returns-clause-stands : goal.returns-clause-stands
returns-clause-stands g c =
    let m = g.T.Tariff.meaning c.args.pool.now.tariff in
    let p = g.R.PartingRule.shares c.args.pool.now.rule in
    let b = c.args.pool.now.book in
    let w = c.answer_to-answer.new.pool.book in
    let a = c.answer_to-answer.result in
    let rs = c.answer_to-answer.new.records in
    let done = c.answer_to-answer.ensures in
    let s = c.args.pool.now.sound in
    let t = c.answer_to-answer.new.pool.sound in
    let zeros : c.default-records.result ≡ nothing = search rules in
    λ J st.
    subst (λ x. Stands m p (record { call = c.args.call; answer = a; records = rs; accounts = x; cash = c.cash.result } ∷ J) w) (sym c.accounts.ensures.answer)
    (subst (λ y. Stands m p (record { call = c.args.call; answer = a; records = rs; accounts = w.accounts; cash = y } ∷ J) w) (sym c.cash.ensures.answer)
    (step_stands m p c.args.call a rs J b w s t st done.answer done.after (done.records ∙ ap (outcome m p b c.args.call).records (ap (replicate record_count) zeros))))
