-- What is written for each charge is the list of it.
use Rattle.std.proofs.Common.{rules}
use Rattle.quantities.specs.declared.paise.Paise.{Paise}
use Rattle.sharing.specs.Sides.{no_charge, weight_on}
use Rattle.sharing.specs.declared.charge.Charge.{Charge}
use Rattle.sharing.proofs.Mapping.{mapped}
use Rattle.sharing.proofs.lines.write_weights.Goals as goal

abbrev the_sum : Charge → Paise
the_sum c = c.sum

pub returns : goal.returns
returns c = record { after = mapped (weight_on c.args.side) c.args.charges.now _ no_charge c.write_each.ensures.room (λ k e h. let is = c.write_each.ensures.after k e h in search rules) }
