-- A seller that gives less than scheduled pays at most a rate. Assumes nothing.
use Rattle.std.specs.Prelude.{ℕ, ◌*◌, ◌/◌, cond, ◌&&◌, ℤ, pos}
use Rattle.std.specs.Int.{int_min}
use Rattle.facts.specs.Facts.{Facts, deviation}
use Rattle.facts.specs.Kinds.{same_kind}
use Rattle.facts.specs.declared.kinds.Kind.TheVariants.{Seller}
use Rattle.tariff.specs.Charges.{under_by}

-- the rate c, and the charge below
abbrev pub cap_charge : ℕ → (Facts → ℤ) → Facts → ℤ
cap_charge c below f =
    cond (same_kind f.kind Seller && under_by 0 f)
    (int_min (below f) (pos (c * deviation f / 10)))
    (below f)
