-- What the book of every pool keeps. Assumes nothing.
use Rattle.std.specs.Prelude.{◌≡◌, ℕ, ◌-◌, ◌*◌, ◌<◌, ◌≤◌, Bool, true, false, cond, List, length, pos, ◌+ℤ◌, ◌≤ℤ◌, is_some, Some, None, Option, slice_index_or, unsigned_abs}
use Rattle.quantities.specs.Limits.{most_money}
use Rattle.facts.specs.Refusals.{reading_fits, grid_fits}
use Rattle.member_day.specs.Entries.{blocks}
use Rattle.member_day.specs.declared.entries.GridEntry.{GridEntry}
use Rattle.member_day.specs.declared.entries.ReadingEntry.{ReadingEntry}
use Rattle.day.specs.declared.record.Record.{Record}
use Rattle.day.specs.declared.member.MemberKind.{MemberKind}
use Rattle.day.specs.declared.member.MemberKind.TheVariants.{Metered, Regional}
use Rattle.day.specs.Members.{most_members}
use Rattle.day.specs.Records.{record_count}
use Rattle.pool.specs.Rules.{most_day}
use Rattle.pool.specs.Standing.{line_at, sum_at, sum_of_lines, total}
use Rattle.day.specs.Members.{member_at}
use Rattle.pool.specs.declared.book.Book.{Book}

-- an entry that is there lies within its limits
abbrev pub grid_fine : Option GridEntry → Bool
grid_fine (Some g) = grid_fits (pos g.hz100) (pos g.price)
grid_fine None = true

abbrev pub reading_fine : MemberKind → Option ReadingEntry → Bool
reading_fine (Metered k) (Some r) = reading_fits k (pos r.scheduled) (pos r.metered) (pos r.available)
reading_fine (Metered k) None = true
reading_fine Regional r = true

-- the days that can have been closed: one of each number up to the last, but for one that is open
abbrev pub days_past : Book → ℕ
days_past b = b.day - cond b.opened 1 0

pub record Sound (b : Book) : Type 0 where
  pub few : b.count ≤ most_members
  pub places : length b.members ≡ most_members
  pub long : (m : ℕ) → m < most_members → length (member_at b.members m).readings ≡ blocks
  pub fine : (m k : ℕ) → reading_fine (member_at b.members m).kind (slice_index_or (member_at b.members m).readings k None) ≡ true
  -- nobody who is not enrolled has a reading
  pub beyond : (m k : ℕ) → b.count ≤ m → is_some (slice_index_or (member_at b.members m).readings k None) ≡ false
  pub rows : length b.grid ≡ blocks
  pub grid_rows : (k : ℕ) → grid_fine (slice_index_or b.grid k None) ≡ true
  pub dated : b.day ≤ most_day
  pub begun : cond b.opened 1 0 ≤ b.day
  pub full : length b.accounts.table ≡ record_count
  -- no account goes further than the lines of so many days
  pub bounded : (k : ℕ) → k < record_count → unsigned_abs (sum_at b.accounts.table k) ≤ most_money * days_past b
  -- all accounts with the cash add to nothing
  pub balanced : total b.accounts.table +ℤ b.cash.paise ≡ pos 0
  pub cash_least : pos 0 ≤ℤ b.cash.paise

-- the records of a day whose lines may stand on the accounts: each within its limit, and together nothing
pub record Postable (rs : List Record) : Type 0 where
  pub seventeen : length rs ≡ record_count
  pub within : (k : ℕ) → k < record_count → unsigned_abs (line_at rs k) ≤ most_money
  pub even : sum_of_lines rs ≡ pos 0
