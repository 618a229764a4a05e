-- What a deviation costs at a rate lies within the limit of a charge, and is 0 at no deviation. Assumes nothing.
use Rattle.std.specs.Prelude.{◌≡◌, ℕ, ◌*◌, ◌/◌, ◌≤◌, pos}
use Rattle.std.proofs.Common.{mul-le-mul, mul-le-mul_left, arith}
use Rattle.std.proofs.lemmas.Int.{ints}
use Rattle.facts.specs.Facts.{Facts, Within, deviation}
use Rattle.quantities.specs.Limits.{most_rate, most_kwh, most_charge}
use Rattle.quantities.specs.Money.{on_side}
use Rattle.quantities.specs.declared.side.Side.{Side}
use Rattle.quantities.specs.declared.side.Side.TheVariants.{Payable, Receivable}
use Rattle.tariff.specs.Charges.{Bounded}

side_bounded : (s : Side) (n : ℕ) → n ≤ most_charge → Bounded (on_side s n)
side_bounded Payable n h = record { low = omega (arith, ints); high = omega (arith, ints) }
side_bounded Receivable n h = record { low = omega (arith, ints); high = omega (arith, ints) }

side_zero : (s : Side) (n : ℕ) → n ≡ 0 → on_side s n ≡ pos 0
side_zero Payable n h = omega (arith, ints)
side_zero Receivable n h = omega (arith, ints)

pub cost_bounded : (s : Side) (rate : ℕ) (f : Facts) → rate ≤ most_rate → Within f → Bounded (on_side s (rate * deviation f / 10))
cost_bounded s rate f fits w =
    let far : deviation f ≤ most_kwh = omega arith in
    let m : rate * deviation f ≤ most_rate * most_kwh = mul-le-mul fits far in
    side_bounded s _ (omega arith)

pub cost_level : (s : Side) (rate : ℕ) (f : Facts) → f.metered ≡ f.scheduled → on_side s (rate * deviation f / 10) ≡ pos 0
cost_level s rate f e = let none : deviation f ≤ 0 = omega arith in side_zero s _ (omega (arith, mul-le-mul_left rate none))
