-- A seller that gives more than the volume limit allows is charged as at the limit. Assumes nothing.
use Rattle.std.specs.Prelude.{◌+◌, cond, ◌&&◌, ℤ}
use Rattle.facts.specs.Facts.{Facts, with_metered}
use Rattle.facts.specs.Kinds.{same_kind}
use Rattle.facts.specs.declared.kinds.Kind.TheVariants.{Seller}
use Rattle.tariff.specs.Charges.{over_by}
use Rattle.tariff.specs.Volume.{volume_limit}

abbrev pub ceiling_charge : (Facts → ℤ) → Facts → ℤ
ceiling_charge below f =
    cond (same_kind f.kind Seller && over_by (volume_limit f) f)
    (below (with_metered f (f.scheduled + volume_limit f)))
    (below f)
