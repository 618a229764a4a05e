-- What the second supplier's pile charges. Assumes nothing.
use Rattle.std.specs.Prelude.{ℤ}
use Rattle.facts.specs.Facts.{Facts}
use Rattle.facts.specs.declared.kinds.Kind.TheVariants.{Buyer, Seller}
use Rattle.tariff.specs.Bands.{bands_charge}
use Rattle.tariff.specs.ByKind.{by_kind_charge}
use Rattle.tariff.specs.Cap.{cap_charge}
use Rattle.tariff.specs.Ceiling.{ceiling_charge}
use Rattle.tariff.specs.Extra.{extra_charge}
use Rattle.tariff.specs.Vector.{vector_charge}

-- extra over vector for buyers; extra over ceiling over a cap of 3,943 over vector for sellers; otherwise bands
abbrev pub second_charge : Facts → ℤ
second_charge =
    by_kind_charge Buyer (extra_charge vector_charge)
    (by_kind_charge Seller (extra_charge (ceiling_charge (cap_charge 3943 vector_charge))) bands_charge)
