-- The deviation at a rate that follows the frequency. Assumes nothing.
use Rattle.std.specs.Prelude.{ℕ, ◌+◌, ◌-◌, ◌*◌, ◌/◌, cond, ℤ, nat_le}
use Rattle.facts.specs.Facts.{Facts, deviation}
use Rattle.facts.specs.Kinds.{same_kind}
use Rattle.quantities.specs.Money.{on_side}
use Rattle.facts.specs.declared.kinds.Kind.TheVariants.{Buyer}
use Rattle.quantities.specs.declared.side.Side.{Side}
use Rattle.quantities.specs.declared.side.Side.TheVariants.{Payable, Receivable}
use Rattle.tariff.specs.Charges.{over_by, under_by}

-- by frequency and price: nothing from 50.05 Hz on, the price at 50.00, the highest rate below 49.85
abbrev pub vector_rate : ℕ → ℕ → ℕ
vector_rate f p =
    cond (nat_le 5005 f) 0
    (cond (nat_le 5000 f) (p * (5005 - f) / 5)
    (cond (nat_le 4985 f) (p + (8000 - p) * (5000 - f) / 15)
    8000))

-- payable by a buyer that draws more than scheduled and by any other that gives less, else receivable
abbrev pub vector_side : Facts → Side
vector_side f = cond (cond (same_kind f.kind Buyer) (over_by 0 f) (under_by 0 f)) Payable Receivable

abbrev pub vector_charge : Facts → ℤ
vector_charge f = on_side (vector_side f) (vector_rate f.hz100 f.price * deviation f / 10)
