-- Charges of the days worked by hand. Assumes nothing.
use Rattle.std.specs.Prelude.{ℕ, min, Bool, true, false, List, [], ◌∷◌}
use Rattle.quantities.specs.Limits.{most_paise}
use Rattle.quantities.specs.Money.{money, on_side}
use Rattle.quantities.specs.declared.side.Side.{Side}
use Rattle.quantities.specs.declared.side.Side.TheVariants.{Payable, Receivable}
use Rattle.sharing.specs.declared.charge.Charge.{Charge}

-- a charge of so many paise on a side
abbrev pub charge_on : Bool → Side → ℕ → Charge
charge_on fixed s paise = record { fixed = fixed; sum = money (on_side s (min paise most_paise)) }

-- P = 9,750, R = 11,250, B = 10,500, Fp = 0 and Fr = 3,000: 10,500 is parted among the first four, 7,500 among the next two
abbrev pub seven_charges : List Charge
seven_charges =
    charge_on false Payable 2850
    ∷ charge_on false Payable 1900
    ∷ charge_on false Payable 3500
    ∷ charge_on false Payable 1500
    ∷ charge_on false Receivable 4750
    ∷ charge_on false Receivable 3500
    ∷ charge_on true Receivable 3000
    ∷ []
