-- The law over runs, in words of the journal. Assumes nothing.
use Rattle.std.specs.Prelude.{◌≡◌, ℕ, ◌<◌, ◌≤◌, min, true, cond, List, [], ◌∷◌, ◌++◌, map, length, take, drop, replicate, ℤ, pos, ◌+ℤ◌, None, slice_index_or}
use Rattle.facts.specs.Facts.{Facts}
use Rattle.member_day.specs.Entries.{blocks}
use Rattle.day.specs.Laws.{Settled}
use Rattle.day.specs.Members.{most_members, member_at}
use Rattle.day.specs.Records.{day_records, nothing, record_count}
use Rattle.day.specs.declared.record.Record.{Record}
use Rattle.pool.specs.Standing.{sum_at, total}
use Rattle.pool.specs.Tables.{kinds_of}
use Rattle.pool.specs.declared.book.Book.{Book}
use Rattle.journal.specs.Answers.{answer_in}
use Rattle.journal.specs.Words.{closed_day, kinds_in, open_in, last_day, last_grid, last_reading, last_amount, grid_in, members_in, owed_by, cash_in}
use Rattle.journal.specs.declared.call.Call.{Call}
use Rattle.journal.specs.declared.entry.Entry.{Entry}

-- zeros, where no day was closed
abbrev pub no_records : List Record
no_records = replicate record_count nothing

module _ (m : Facts → ℤ) (g : ℕ → List ℕ → List ℕ) where
  -- what an entry says, by the entries before it
  pub record Told (e : Entry) (before : List Entry) : Type 0 where
    -- every answer is the one that the rules give
    pub answer : e.answer ≡ answer_in m before e.call
    -- the records of a close are those of the day's entries
    pub records : e.records ≡ cond (closed_day e) (day_records m g (grid_in before) (members_in before)) no_records
    -- each account and the cash are the sums that the journal says, and all together are nothing
    pub full : length e.accounts.table ≡ record_count
    pub accounts : (k : ℕ) → k < record_count → sum_at e.accounts.table k ≡ owed_by (e ∷ before) k
    pub cash : e.cash.paise ≡ cash_in (e ∷ before)
    pub zero : total e.accounts.table +ℤ e.cash.paise ≡ pos 0
    -- there were at most sixteen members
    pub few : length (kinds_in before) ≤ most_members

  -- each entry says so
  abbrev pub Each : List Entry → Type 0
  Each [] = Unit {0}
  Each (e ∷ J) = Told e J × Each J

-- in the journal J the entry e closed a day, and `before` is what had been noted until then
pub record ClosedIn (J : List Entry) (e : Entry) (before : List Entry) : Type 0 where
  pub later : List Entry
  pub place : J ≡ later ++ (e ∷ before)
  pub closed : closed_day e ≡ true

-- two days are alike in members, grid rows, last accepted readings and regional amounts
pub record Alike (before before' : List Entry) : Type 0 where
  pub members : kinds_in before ≡ kinds_in before'
  pub grid_rows : (b : ℕ) → b < blocks → last_grid before b ≡ last_grid before' b
  pub readings : (k b : ℕ) → k < length (kinds_in before) → b < blocks → last_reading before k b ≡ last_reading before' k b
  pub amounts : (k : ℕ) → k < length (kinds_in before) → last_amount before k ≡ last_amount before' k

-- closed days that are alike have equal records
abbrev pub Same : List Entry → List Entry → Type 0
Same J J' = (e e' : Entry) (before before' : List Entry) → ClosedIn J e before → ClosedIn J' e' before' → Alike before before' → e.records ≡ e'.records

-- every closed day is fair: among all that is said of a settled day, an adjustable line of a day shared by the average
-- lies less than one paisa from its exact share, and a member metered as scheduled all day has zeros
abbrev pub FairDays : List Entry → Type 0
FairDays J = (e : Entry) (before : List Entry) → ClosedIn J e before → Settled (members_in before) e.records

-- the law of a run, by what the tariff and the rule mean
pub record Lawful (m : Facts → ℤ) (g : ℕ → List ℕ → List ℕ) (J : List Entry) : Type 0 where
  pub each : Each m g J
  pub same : Same J J
  pub fair : FairDays J

-- a pool with this book stands after the journal J
pub record Stands (m : Facts → ℤ) (g : ℕ → List ℕ → List ℕ) (J : List Entry) (b : Book) : Type 0 where
  pub each : Each m g J
  pub accounts : (k : ℕ) → k < record_count → sum_at b.accounts.table k ≡ owed_by J k
  pub cash : b.cash.paise ≡ cash_in J
  pub kinds : kinds_of b ≡ kinds_in J
  pub opened : b.opened ≡ open_in J
  pub day : b.day ≡ last_day J
  pub grid_rows : (k : ℕ) → k < blocks → slice_index_or b.grid k None ≡ last_grid J k
  pub readings : (k i : ℕ) → k < most_members → i < blocks → slice_index_or (member_at b.members k).readings i None ≡ last_reading J k i
  pub amounts : (k : ℕ) → k < most_members → (member_at b.members k).amount ≡ last_amount J k

-- whatever journal a pool with the book b stood after, with the book w it stands after these entries and that one
abbrev pub Carries : (Facts → ℤ) → (ℕ → List ℕ → List ℕ) → Book → List Entry → Book → Type 0
Carries m g b entries w = (J : List Entry) → Stands m g J b → Stands m g (entries ++ J) w

-- The calls performed are the first of those given, as many as the journal has room for. Each is noted at its place, and
-- the places beyond are as they were.
pub record Noted (calls : List Call) (old journal : List Entry) (count : ℕ) : Type 0 where
  pub counted : count ≡ min (length calls) (length old)
  pub calls_noted : map (λ e. e.call) (take count journal) ≡ take count calls
  pub beyond : drop count journal ≡ drop count old
