-- The facts of a block as plain numbers: all that a tariff's meaning may go by. Assumes nothing.
use Rattle.std.specs.Prelude.{ℕ, ◌+◌, ◌-◌, ◌≤◌}
use Rattle.quantities.specs.Limits.{most_kwh, least_hz100, most_hz100, most_rate}
use Rattle.facts.specs.Kinds.{least_available, most_available}
use Rattle.facts.specs.declared.kinds.Kind.{Kind}
use Rattle.facts.specs.declared.block_facts.BlockFacts.{BlockFacts}

pub record Facts : Type 0 where
  pub kind : Kind
  pub scheduled : ℕ
  pub metered : ℕ
  pub available : ℕ
  pub hz100 : ℕ
  pub price : ℕ

-- facts within their limits
pub record Within (f : Facts) : Type 0 where
  pub scheduled_fits : f.scheduled ≤ most_kwh
  pub metered_fits : f.metered ≤ most_kwh
  pub available_least : least_available f.kind ≤ f.available
  pub available_most : f.available ≤ most_available f.kind
  pub hz100_least : least_hz100 ≤ f.hz100
  pub hz100_most : f.hz100 ≤ most_hz100
  pub price_fits : f.price ≤ most_rate

-- the magnitude of the deviation
abbrev pub deviation : Facts → ℕ
deviation f = (f.metered - f.scheduled) + (f.scheduled - f.metered)

-- the same facts, but for the metered energy
abbrev pub with_metered : Facts → ℕ → Facts
with_metered f kwh = record {
  kind = f.kind;
  scheduled = f.scheduled;
  metered = kwh;
  available = f.available;
  hz100 = f.hz100;
  price = f.price;
}

-- what a value of the code says
abbrev pub plain : BlockFacts → Facts
plain b = record {
  kind = b.reading.kind;
  scheduled = b.reading.scheduled.kwh;
  metered = b.reading.metered.kwh;
  available = b.reading.available.kwh;
  hz100 = b.grid.hz100;
  price = b.grid.price.tenths;
}

-- facts that exist lie within their limits
pub plain_within : (b : BlockFacts) → Within (plain b)
plain_within b = record {
  scheduled_fits = b.reading.fits.0;
  metered_fits = b.reading.fits.1;
  available_least = b.reading.fits.2;
  available_most = b.reading.fits.3;
  hz100_least = b.grid.fits.0;
  hz100_most = b.grid.fits.1;
  price_fits = b.grid.price.fits;
}
