-- A settled day's lines stand on the accounts.
use Rattle.std.proofs.Common.{take, drop, refl, sym, ap, ◌∙◌, subst}
use Rattle.std.proofs.lemmas.List.{take_at}
use Rattle.day.specs.Records.{record_count}
use Rattle.day.proofs.SettledDay.{length_records}
use Rattle.pool.specs.Calls.{closed_with, ended, records_of, with_money}
use Rattle.pool.specs.Sound.{Sound}
use Rattle.pool.proofs.Sounds.{closed_sound}
use Rattle.pool.proofs.pool.Pool.close.Goals as goal

pub invariant_of-self : goal.invariant_of-self
invariant_of-self g c =
    let b = c.args.self.now.book in
    let after = ap (λ t. ended (with_money b t b.cash)) c.post.ensures.after in
    record { sound = subst Sound (sym after) (closed_sound b (take record_count c.settle.new.records) c.args.self.now.sound c.in_ok-must_be_open.ensures.answer (c.in_ok-settle.ensures.lines refl)) }

pub returns-clause-after : goal.returns-clause-after
returns-clause-after g c =
    let b = c.args.self.now.book in
    let rs = records_of (g.T.Tariff.meaning c.args.self.now.tariff) (g.R.PartingRule.shares c.args.self.now.rule) b in
    ap (λ t. ended (with_money b t b.cash)) c.post.ensures.after
    ∙ ap (closed_with b) (ap (take record_count) c.in_ok-settle.ensures.records ∙ take_at rs (drop record_count c.args.records.now) record_count (length_records _ _ _))
