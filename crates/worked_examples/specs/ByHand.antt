-- Rates, limits and charges worked by hand. Assumes nothing.
use Rattle.std.specs.Prelude.{◌≡◌, ℕ, ℤ, pos}

-- the vector's rate at a price of 4,000, by frequency
pub record RatesByHand (hz100 : ℤ) (tenths : ℕ) : Type 0 where
  pub at_4984 : hz100 ≡ pos 4984 → tenths ≡ 8000
  pub at_4999 : hz100 ≡ pos 4999 → tenths ≡ 4266
  pub at_5004 : hz100 ≡ pos 5004 → tenths ≡ 800
  pub at_5005 : hz100 ≡ pos 5005 → tenths ≡ 0

-- the volume limit, by scheduled energy
pub record LimitsByHand (scheduled : ℤ) (kwh : ℕ) : Type 0 where
  pub at_10000 : scheduled ≡ pos 10000 → kwh ≡ 1250
  pub at_10001 : scheduled ≡ pos 10001 → kwh ≡ 1200

-- the bands with 1,000 available, by deviation
pub record BandsByHand (deviation : ℤ) (paise : ℤ) : Type 0 where
  pub at_151 : deviation ≡ pos 151 → paise ≡ pos 50
  pub at_400 : deviation ≡ pos 400 → paise ≡ pos 22500

-- the house pile for a seller at a price of 4,000
pub record HouseByHand (scheduled metered hz100 paise : ℤ) : Type 0 where
  pub short : scheduled ≡ pos 20000 → metered ≡ pos 17000 → hz100 ≡ pos 4980 → paise ≡ pos 1230216
