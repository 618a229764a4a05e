-- Up to a fifth more on what is payable, for a deviation past the volume limit. Assumes nothing.
use Rattle.std.specs.Prelude.{ℕ, ◌-◌, ◌*◌, ◌/◌, Bool, cond, ◌&&◌, ℤ, pos, ◌+ℤ◌}
use Rattle.std.specs.Int.{int_min}
use Rattle.facts.specs.Facts.{Facts, deviation}
use Rattle.facts.specs.Kinds.{same_kind}
use Rattle.quantities.specs.Limits.{most_charge}
use Rattle.quantities.specs.Money.{payable_in}
use Rattle.facts.specs.declared.kinds.Kind.TheVariants.{Buyer, Seller}
use Rattle.tariff.specs.Charges.{over_by, under_by}
use Rattle.tariff.specs.Volume.{volume_limit}

-- a buyer that draws more, or a seller that gives less, than the limit allows
abbrev pub past_limit : Facts → Bool
past_limit f =
    cond (same_kind f.kind Buyer) (over_by (volume_limit f) f)
    (same_kind f.kind Seller && under_by (volume_limit f) f)

-- a fifth of what is payable, in the share that the excess over the limit has in the deviation
abbrev pub extra_part : ℤ → Facts → ℕ
extra_part charge f = payable_in charge * (deviation f - volume_limit f) / (5 * deviation f)

-- with that part, held at the highest charge
abbrev pub raised_charge : ℤ → Facts → ℤ
raised_charge charge f = int_min (charge +ℤ pos (extra_part charge f)) (pos most_charge)

abbrev pub extra_charge : (Facts → ℤ) → Facts → ℤ
extra_charge below f = cond (past_limit f) (raised_charge (below f) f) (below f)
