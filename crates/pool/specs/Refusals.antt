-- The number of each refusal of the pool. Assumes nothing.
use Rattle.std.specs.Prelude.{ℕ}
use Rattle.pool.specs.declared.refusal.Refusal.{Refusal}
use Rattle.pool.specs.declared.refusal.Refusal.TheVariants.{WrongMoment, NotEnrolled, WrongKind, OutsideLimit, PoolFull, DayNotLater, EntryMissing, TooFewRecords, SideTooLarge, MoreThanDue, MoreThanCash}

abbrev pub refusal_number : Refusal → ℕ
refusal_number WrongMoment = 1
refusal_number NotEnrolled = 2
refusal_number WrongKind = 3
refusal_number OutsideLimit = 4
refusal_number PoolFull = 5
refusal_number DayNotLater = 6
refusal_number EntryMissing = 7
refusal_number TooFewRecords = 8
refusal_number SideTooLarge = 9
refusal_number MoreThanDue = 10
refusal_number MoreThanCash = 11
