-- A new pool has the fresh book, which stands after no call.
use Rattle.std.proofs.Common.{[], sym, subst}
use Rattle.journal.specs.Law.{Stands}
use Rattle.journal.proofs.Keeping.{none_stands}
use Rattle.journal.proofs.runs.begin.Goals as goal

pub returns-clause-stands : goal.returns-clause-stands
returns-clause-stands g c =
    let m = g.T.Tariff.meaning c.args.tariff in
    let p = g.R.PartingRule.shares c.args.rule in
    subst (Stands m p []) (sym c.new.ensures.book) (none_stands m p)
