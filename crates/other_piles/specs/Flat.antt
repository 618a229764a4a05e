-- Every deviation at one rate, payable upwards and receivable downwards. Assumes nothing.
use Rattle.std.specs.Prelude.{cond, ℕ, ◌*◌, ◌/◌, ℤ}
use Rattle.facts.specs.Facts.{Facts, deviation}
use Rattle.quantities.specs.Money.{on_side}
use Rattle.quantities.specs.declared.side.Side.TheVariants.{Payable, Receivable}
use Rattle.tariff.specs.Charges.{over_by}

-- the rate c
abbrev pub flat_charge : ℕ → Facts → ℤ
flat_charge c f = on_side (cond (over_by 0 f) Payable Receivable) (c * deviation f / 10)
