-- What a reading or a grid row holds that was made of plain numbers. Assumes nothing.
use Rattle.std.specs.Prelude.{◌≡◌, true, ℤ, pos}
use Rattle.facts.specs.Refusals.{reading_fits, grid_fits}
use Rattle.facts.specs.declared.kinds.Kind.{Kind}
use Rattle.facts.specs.declared.reading.Reading.{Reading}
use Rattle.facts.specs.declared.grid_row.GridRow.{GridRow}

-- the reading of these numbers, which are within their limits
pub record ReadingOf (kind : Kind) (scheduled metered available : ℤ) (r : Reading) : Type 0 where
  pub fits : reading_fits kind scheduled metered available ≡ true
  pub kind_held : r.kind ≡ kind
  pub scheduled_held : pos r.scheduled.kwh ≡ scheduled
  pub metered_held : pos r.metered.kwh ≡ metered
  pub available_held : pos r.available.kwh ≡ available

-- the grid row of these numbers, which are within their limits
pub record GridRowOf (hz100 price : ℤ) (g : GridRow) : Type 0 where
  pub fits : grid_fits hz100 price ≡ true
  pub hz100_held : pos g.hz100 ≡ hz100
  pub price_held : pos g.price.tenths ≡ price
