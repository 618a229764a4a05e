-- What the records of a closed day keep, over the members and the records alone. Assumes nothing.
use Rattle.std.specs.Prelude.{◌≡◌, ℕ, ◌<◌, ◌≤◌, true, false, List, [], ◌∷◌, map, length, pos, ◌+ℤ◌, slice_index_or, unsigned_abs}
use Rattle.facts.specs.declared.kinds.Kind.{Kind}
use Rattle.member_day.specs.Laws.{AsScheduled}
use Rattle.quantities.specs.Limits.{most_money}
use Rattle.quantities.specs.declared.side.Side.{Side}
use Rattle.sharing.specs.Laws.{together, distance}
use Rattle.sharing.specs.Sides.{weight_on, adjustable, by_average}
use Rattle.quantities.specs.Money.{money}
use Rattle.sharing.specs.declared.charge.Charge.{Charge}
use Rattle.day.specs.Members.{most_members, is_regional, member_at}
use Rattle.day.specs.Records.{record_count, nothing}
use Rattle.day.specs.declared.member.Member.{Member}
use Rattle.day.specs.declared.member.MemberKind.TheVariants.{Metered}
use Rattle.day.specs.declared.record.Record.{Record}

abbrev pub record_in : List Record → ℕ → Record
record_in rs k = slice_index_or rs k nothing

-- the charge that a member's record tells: base plus surcharge, fixed for a regional amount
abbrev pub told : Member → Record → Charge
told mb r = record { fixed = is_regional mb.kind; sum = money (r.base.paise +ℤ r.surcharge.paise) }

abbrev pub told_at : List Member → List Record → ℕ → Charge
told_at ms rs k = told (member_at ms k) (record_in rs k)

abbrev pub charges_told : List Member → List Record → List Charge
charges_told [] rs = []
charges_told (mb ∷ ms) [] = []
charges_told (mb ∷ ms) (r ∷ rs) = told mb r ∷ charges_told ms rs

pub record Settled (ms : List Member) (rs : List Record) : Type 0 where
  pub seventeen : length rs ≡ record_count
  -- all lines, the reserve's among them, add to nothing
  pub even : together (map (λ r. r.line) rs) ≡ pos 0
  -- on a day shared by the average an adjustable line is less than one paisa from its exact share
  pub near : by_average (charges_told ms rs) ≡ true → (s : Side) (k : ℕ) → k < length ms → 0 < weight_on s (told_at ms rs k) →
      distance s (charges_told ms rs) (record_in rs k).line (told_at ms rs k).sum < adjustable s (charges_told ms rs)
  -- on such a day the reserve bears nothing
  pub borne : by_average (charges_told ms rs) ≡ true → (record_in rs most_members).line ≡ money (pos 0)
  -- on any other day every line is the charge
  pub unshared : by_average (charges_told ms rs) ≡ false → (k : ℕ) → k < length ms → (record_in rs k).line ≡ (told_at ms rs k).sum
  -- a regional amount stays as entered
  pub stays : (k : ℕ) → k < length ms → is_regional (member_at ms k).kind ≡ true → (record_in rs k).line ≡ (told_at ms rs k).sum
  -- every line is within the limit
  pub within : (k : ℕ) → k < record_count → unsigned_abs (record_in rs k).line.paise ≤ most_money
  -- a member metered as scheduled in every block has zeros
  pub level : (k : ℕ) (kind : Kind) → k < length ms → (member_at ms k).kind ≡ Metered kind → AsScheduled (member_at ms k).readings → record_in rs k ≡ nothing
  -- so has a place where nobody is enrolled
  pub empty : (k : ℕ) → length ms ≤ k → k < most_members → record_in rs k ≡ nothing
  -- the reserve's record has a line alone
  pub reserve : ((record_in rs most_members).base ≡ money (pos 0)) × ((record_in rs most_members).surcharge ≡ money (pos 0))
