-- What the house pile charges. Assumes nothing.
use Rattle.std.specs.Prelude.{ℤ}
use Rattle.facts.specs.Facts.{Facts}
use Rattle.facts.specs.declared.kinds.Kind.TheVariants.{SolarWind}
use Rattle.tariff.specs.Bands.{bands_charge}
use Rattle.tariff.specs.ByKind.{by_kind_charge}
use Rattle.tariff.specs.Cap.{cap_charge}
use Rattle.tariff.specs.Ceiling.{ceiling_charge}
use Rattle.tariff.specs.Extra.{extra_charge}
use Rattle.tariff.specs.Vector.{vector_charge}

-- bands for solar or wind; otherwise extra over ceiling over a cap of 3,943 over vector
abbrev pub house_charge : Facts → ℤ
house_charge = by_kind_charge SolarWind bands_charge (extra_charge (ceiling_charge (cap_charge 3943 vector_charge)))
