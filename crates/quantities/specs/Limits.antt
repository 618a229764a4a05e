-- The limits of the quantities, each named once. Assumes nothing.
use Rattle.std.specs.Prelude.{ℕ, ◌-◌, ◌^◌, Bool, false, ◌&&◌, ℤ, pos, negsuc, nat_le, unsigned_abs}

-- energy of one block, in kWh
abbrev pub most_kwh : ℕ
most_kwh = 100000

-- frequency, in hundredths of a hertz
abbrev pub least_hz100 : ℕ
least_hz100 = 4800

abbrev pub most_hz100 : ℕ
most_hz100 = 5200

-- price and every rate, in tenths of a paisa per kWh
abbrev pub most_rate : ℕ
most_rate = 8000

-- the charge of one block either way, in paise
abbrev pub most_charge : ℕ
most_charge = 100000000

-- a payment, a regional amount either way, and each side of a day, in paise
abbrev pub most_money : ℕ
most_money = 3000000000

-- the largest sum of money that a number of the code holds
abbrev pub most_paise : ℕ
most_paise = 2 ^ 63 - 1

-- whether a number of a call lies between two limits, both of them allowed
abbrev pub within : ℕ → ℕ → ℤ → Bool
within least most (pos n) = nat_le least n && nat_le n most
within least most (negsuc n) = false

-- whether a number of either sign goes no further than a limit
abbrev pub within_either : ℕ → ℤ → Bool
within_either most z = nat_le (unsigned_abs z) most
