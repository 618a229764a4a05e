-- What a member's day comes to: base and surcharge. Assumes nothing.
use Rattle.std.specs.Prelude.{ℕ, ◌*◌, ◌/◌, ◌≤◌, List, [], ◌∷◌, map, ℤ, pos, ◌+ℤ◌, ◌≤ℤ◌, unsigned_abs}
use Rattle.facts.specs.Facts.{Facts}
use Rattle.facts.specs.declared.kinds.Kind.{Kind}
use Rattle.facts.specs.declared.kinds.Kind.TheVariants.{Buyer, Seller, SolarWind}
use Rattle.quantities.specs.Limits.{most_charge}
use Rattle.quantities.specs.Money.{money}
use Rattle.quantities.specs.declared.paise.Paise.{Paise}
use Rattle.member_day.specs.Entries.{blocks}
use Rattle.member_day.specs.Runs.{direction, runs}
use Rattle.member_day.specs.declared.direction.Direction.TheVariants.{Level}
use Rattle.member_day.specs.declared.due.Due.{Due}

-- the sum of the block charges
abbrev pub base_of : (Facts → ℤ) → List Facts → ℤ
base_of m [] = pos 0
base_of m (f ∷ fs) = m f +ℤ base_of m fs

-- the sum over the runs of a seventh of the length, rounded down
abbrev pub sevenths_of : List Facts → ℕ
sevenths_of fs = runs Level (map direction fs)

-- a tenth of the base's magnitude for each of them, rounded down; none for solar or wind
abbrev pub surcharge_of : Kind → ℕ → ℤ → ℕ
surcharge_of Buyer n base = n * unsigned_abs base / 10
surcharge_of Seller n base = n * unsigned_abs base / 10
surcharge_of SolarWind n base = 0

-- base and surcharge, on a base and so many sevenths
abbrev pub due_on : Kind → ℕ → ℤ → Due
due_on k n base = record { base = money base; surcharge = money (pos (surcharge_of k n base)) }

-- what the day of these facts comes to, by what a tariff means
abbrev pub day_due : (Facts → ℤ) → Kind → List Facts → Due
day_due m k fs = due_on k (sevenths_of fs) (base_of m fs)

-- the highest charge in every block: 9,600,000,000 paise
abbrev pub most_base : ℕ
most_base = blocks * most_charge

-- on the highest base, for a run of all blocks: 12,480,000,000 paise
abbrev pub most_surcharge : ℕ
most_surcharge = blocks / 7 * most_base / 10

-- sums within their limits
pub record SumsBounded (s : Paise × ℕ) : Type 0 where
  pub base_most : unsigned_abs s.0.paise ≤ most_base
  pub sevenths_most : 7 * s.1 ≤ blocks

-- a due within its limits
pub record DueBounded (d : Due) : Type 0 where
  pub base_most : unsigned_abs d.base.paise ≤ most_base
  pub surcharge_least : pos 0 ≤ℤ d.surcharge.paise
  pub surcharge_most : d.surcharge.paise ≤ℤ pos most_surcharge
