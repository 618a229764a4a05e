-- The law of the run, at what the pile charges and the rule gives.
use Rattle.std.proofs.Common.{reverse, take}
use Rattle.journal.specs.Law.{Lawful}
use Rattle.parting.specs.Running.{running}
use Rattle.two_suppliers.proofs.AlikePiles.{as_unusual}
use Rattle.two_suppliers.proofs.supply.another_order.Goals as goal

pub returns : goal.returns
returns c =
    let h = c.run-count.ensures in
    let a = c.unusual.ensures in
    let p = c.unusual.result in
    record {
      noted = h.noted;
      law = as_unusual p.below.below.kind p.rate.tenths p.below.below.rest.rate.tenths p.below.below.rest.below.rate.tenths
          (λ m. Lawful m running (reverse (take c.run-count.result.1 c.run-count.new.journal))) a.kind a.outer a.inner a.flat h.law;
    }
