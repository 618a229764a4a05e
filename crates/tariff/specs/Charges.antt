-- What all tariffs share: the bound of a charge, and which way a deviation goes. Assumes nothing.
use Rattle.std.specs.Prelude.{ℕ, ◌+◌, Bool, ℤ, pos, neg_ℤ, ◌≤ℤ◌, nat_lt}
use Rattle.quantities.specs.Limits.{most_charge}
use Rattle.facts.specs.Facts.{Facts}

-- a charge lies within 100,000,000 paise either way
pub record Bounded (z : ℤ) : Type 0 where
  pub low : neg_ℤ (pos most_charge) ≤ℤ z
  pub high : z ≤ℤ pos most_charge

-- metered energy is more than n kWh above the scheduled: d > n
abbrev pub over_by : ℕ → Facts → Bool
over_by n f = nat_lt (f.scheduled + n) f.metered

-- metered energy is more than n kWh below the scheduled: d < −n
abbrev pub under_by : ℕ → Facts → Bool
under_by n f = nat_lt (f.metered + n) f.scheduled
