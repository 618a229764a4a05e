-- The two sides of a day's charges, and whether both come to the average. Assumes nothing.
use Rattle.std.specs.Prelude.{◌≡◌, ℕ, ◌+◌, ◌-◌, ◌/◌, ◌≤◌, Bool, false, cond, ◌&&◌, ◌||◌, List, map, pos, sum_by, sum, ◌==◌, nat_le, nat_lt}
use Rattle.quantities.specs.Limits.{most_money}
use Rattle.quantities.specs.Money.{magnitude, money}
use Rattle.quantities.specs.declared.side.Side.{Side}
use Rattle.quantities.specs.declared.side.Side.TheVariants.{Payable, Receivable}
use Rattle.sharing.specs.declared.charge.Charge.{Charge}
use Rattle.sharing.specs.declared.sides.Sums.{Sums}

abbrev pub no_charge : Charge
no_charge = record { fixed = false; sum = money (pos 0) }

-- the magnitude of a charge on a side, 0 where it is on the other or on neither
abbrev pub on : Side → Charge → ℕ
on s c = magnitude s c.sum.paise

-- what of it is fixed
abbrev pub fixed_on : Side → Charge → ℕ
fixed_on s c = cond c.fixed (on s c) 0

-- its weight: the magnitude of an adjustable charge
abbrev pub weight_on : Side → Charge → ℕ
weight_on s c = cond c.fixed 0 (on s c)

-- P and R: the sum of the charges of a side
abbrev pub total : Side → List Charge → ℕ
total s cs = sum_by (on s) cs

-- Fp and Fr: the part of it that is fixed
abbrev pub fixed_part : Side → List Charge → ℕ
fixed_part s cs = sum_by (fixed_on s) cs

-- one weight for each charge
abbrev pub weights : Side → List Charge → List ℕ
weights s cs = map (weight_on s) cs

-- the part that is adjustable
abbrev pub adjustable : Side → List Charge → ℕ
adjustable s cs = sum (weights s cs)

-- B: half of both sides together, rounded down
abbrev pub average_of : List Charge → ℕ
average_of cs = (total Payable cs + total Receivable cs) / 2

-- what is parted among the adjustable charges of a side: B less its fixed part
abbrev pub to_part : Side → List Charge → ℕ
to_part s cs = average_of cs - fixed_part s cs

-- a side can come to the average: its fixed part is no more, and equals it where nothing is adjustable
abbrev pub reaches : Side → List Charge → Bool
reaches s cs =
    nat_le (fixed_part s cs) (average_of cs)
    && (nat_lt 0 (adjustable s cs) || fixed_part s cs == average_of cs)

-- the day is shared by the average: both sides can come to it
abbrev pub by_average : List Charge → Bool
by_average cs = reaches Payable cs && reaches Receivable cs

-- the sums of a side that is within the limit
pub record Summed (s : Side) (cs : List Charge) (sums : Sums) : Type 0 where
  pub fixed_held : sums.fixed ≡ fixed_part s cs
  pub adjustable_held : sums.adjustable ≡ adjustable s cs
  pub total_held : sums.fixed + sums.adjustable ≡ total s cs
  pub within : total s cs ≤ most_money
