-- Sums of money and their sides. Assumes nothing.
use Rattle.std.specs.Prelude.{ℕ, ◌*◌, suc, ℤ, pos, negsuc, neg_ℤ}
use Rattle.quantities.specs.declared.centi_kwh.CentiKwh.{CentiKwh}
use Rattle.quantities.specs.declared.paise.Paise.{Paise}
use Rattle.quantities.specs.declared.rate.Rate.{Rate}
use Rattle.quantities.specs.declared.side.Side.{Side}
use Rattle.quantities.specs.declared.side.Side.TheVariants.{Payable, Receivable}

-- a sum of so many paise
abbrev pub money : ℤ → Paise
money z = record { paise = z }

-- what an energy costs at a rate before rounding, in thousandths of a paisa
abbrev pub exactly_on : Rate × CentiKwh → ℕ
exactly_on part = part.0.tenths * part.1.hundredths

-- a magnitude as a sum: positive where it is payable to the pool, negative where it is receivable
abbrev pub on_side : Side → ℕ → ℤ
on_side Payable n = pos n
on_side Receivable n = neg_ℤ (pos n)

-- what is payable in a sum: 0 where it is receivable
abbrev pub payable_in : ℤ → ℕ
payable_in (pos n) = n
payable_in (negsuc n) = 0

-- the magnitude of a sum on a side, 0 where the sum is on the other
abbrev pub magnitude : Side → ℤ → ℕ
magnitude Payable (pos n) = n
magnitude Payable (negsuc n) = 0
magnitude Receivable (pos n) = 0
magnitude Receivable (negsuc n) = suc n
