-- A run is a new pool that goes on: what holds of both journals together holds of the new one.
use Rattle.std.proofs.Common.{reverse, take}
use Rattle.journal.specs.Law.{Stands, Lawful}
use Rattle.journal.proofs.Turning.{from_none}
use Rattle.journal.proofs.runs.run.Goals as goal

pub returns : goal.returns
returns g c =
    let F = g.T.Tariff.meaning in
    let G = g.R.PartingRule.shares in
    let b = c.begin-pool.ensures in
    let h = c.resume-count.ensures in
    let p = c.begin-pool.result in
    let w = c.resume-count.new.pool.book in
    let L = reverse (take c.resume-count.result c.resume-count.new.journal) in
    record {
      noted = h.noted;
      stands = from_none F G p.tariff c.args.supplier.tariff p.rule c.args.supplier.rule p.book L (λ m q J. Stands m q J w) b.tariff b.rule b.stands h.stands;
      law = from_none F G p.tariff c.args.supplier.tariff p.rule c.args.supplier.rule p.book L Lawful b.tariff b.rule b.stands h.law;
    }
