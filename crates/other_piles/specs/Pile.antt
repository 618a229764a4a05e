-- What a pile in an unusual order charges. Assumes nothing.
use Rattle.std.specs.Prelude.{ℤ}
use Rattle.facts.specs.Facts.{Facts}
use Rattle.facts.specs.declared.kinds.Kind.TheVariants.{Seller}
use Rattle.tariff.specs.ByKind.{by_kind_charge}
use Rattle.tariff.specs.Cap.{cap_charge}
use Rattle.tariff.specs.Ceiling.{ceiling_charge}
use Rattle.tariff.specs.Extra.{extra_charge}
use Rattle.tariff.specs.Vector.{vector_charge}
use Rattle.other_piles.specs.Flat.{flat_charge}

-- a cap of 5,000 over extra over: for sellers ceiling over vector, for others a cap of 2,000 over flat 3,000
abbrev pub unusual_charge : Facts → ℤ
unusual_charge =
    cap_charge 5000 (extra_charge (by_kind_charge Seller (ceiling_charge vector_charge) (cap_charge 2000 (flat_charge 3000))))
