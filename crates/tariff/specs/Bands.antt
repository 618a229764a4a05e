-- The deviation by bands of the available energy, payable whichever way it goes. Assumes nothing.
use Rattle.std.specs.Prelude.{ℕ, ◌+◌, ◌-◌, ◌*◌, ◌/◌, min, ℤ, pos}
use Rattle.facts.specs.Facts.{Facts, deviation}

-- the part of a deviation e between two hundredths of the available energy a, in hundredths of a kWh
abbrev pub band : ℕ → ℕ → ℕ → ℕ → ℕ
band low high a e = min (100 * e) (high * a) - low * a

-- 50 paise per kWh from 15 to 25 hundredths, 100 from 25 to 35, 150 beyond
abbrev pub bands_sum : ℕ → ℕ → ℕ
bands_sum a e = (50 * band 15 25 a e + 100 * band 25 35 a e + 150 * (100 * e - 35 * a)) / 100

abbrev pub bands_charge : Facts → ℤ
bands_charge f = pos (bands_sum f.available (deviation f))
