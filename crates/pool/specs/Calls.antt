-- What each call on a pool answers, and what the book is after it. Assumes nothing.
use Rattle.std.specs.Prelude.{ℕ, ◌+◌, true, false, List, map, ℤ, ◌+ℤ◌, neg_ℤ, Some, Result, slice_set, unsigned_abs}
use Rattle.std.specs.Option.{unwrap_or}
use Rattle.quantities.specs.declared.paise.Paise.{Paise}
use Rattle.quantities.specs.Money.{money}
use Rattle.member_day.specs.declared.entries.GridEntry.{GridEntry}
use Rattle.day.specs.declared.member.Member.{Member}
use Rattle.day.specs.declared.member.MemberKind.{MemberKind}
use Rattle.day.specs.declared.member.MemberKind.TheVariants.{Regional}
use Rattle.day.specs.declared.record.Record.{Record}
use Rattle.pool.specs.Rules.{settle_rule, close_rule, enrol_rule, open_rule, grid_rule, reading_rule, amount_rule, drop_rule, pay_in_rule, pay_out_rule, account_rule}
use Rattle.pool.specs.Standing.{sum_at, added, posted}
use Rattle.facts.specs.Facts.{Facts}
use Rattle.sharing.specs.Shares.{too_much}
use Rattle.day.specs.Dues.{charges_of}
use Rattle.day.specs.Members.{member_at, member_kind_of}
use Rattle.day.specs.Records.{day_records}
use Rattle.pool.specs.Tables.{all_entered, members_of, reading_entry, grid_entry, no_entries, of_kind, with_reading, with_amount, cleared, changed}
use Rattle.pool.specs.declared.accounts.Account.{Account}
use Rattle.pool.specs.declared.book.Book.{Book}
use Rattle.pool.specs.declared.refusal.Refusal.{Refusal}

-- the kind of a number that has one
abbrev pub kind_numbered : ℤ → MemberKind
kind_numbered z = unwrap_or (member_kind_of z) Regional

abbrev pub enrolling : Book → ℤ → Result ℕ Refusal
enrolling b kind = enrol_rule b.opened b.count kind

abbrev pub with_one_more : Book → MemberKind → Book
with_one_more b kind = record {
  members = changed b.members b.count (of_kind kind);
  count = b.count + 1;
  grid = b.grid;
  day = b.day;
  opened = b.opened;
  accounts = b.accounts;
  cash = b.cash;
}

abbrev pub enrolled_as : Book → ℤ → Book
enrolled_as b kind = with_one_more b (kind_numbered kind)

abbrev pub opening : Book → ℤ → Result (Unit {0}) Refusal
opening b day = open_rule b.opened b.day day

-- a day starts with no entries
abbrev pub opened_on : Book → ℤ → Book
opened_on b day = record {
  members = map cleared b.members;
  count = b.count;
  grid = no_entries;
  day = unsigned_abs day;
  opened = true;
  accounts = b.accounts;
  cash = b.cash;
}

-- the book with other entries, and all else as it was
abbrev pub with_row : Book → ℕ → GridEntry → Book
with_row b block row = record {
  members = b.members;
  count = b.count;
  grid = slice_set b.grid block (Some row);
  day = b.day;
  opened = b.opened;
  accounts = b.accounts;
  cash = b.cash;
}

abbrev pub with_grid : Book → ℤ → ℤ → ℤ → Book
with_grid b block hz100 price = with_row b (unsigned_abs block) (grid_entry hz100 price)

abbrev pub with_member : Book → ℕ → (Member → Member) → Book
with_member b place f = record {
  members = changed b.members place f;
  count = b.count;
  grid = b.grid;
  day = b.day;
  opened = b.opened;
  accounts = b.accounts;
  cash = b.cash;
}

-- the kind of the member that a number names
abbrev pub kind_of_member : Book → ℤ → MemberKind
kind_of_member b member = (member_at b.members (unsigned_abs member)).kind

abbrev pub entering_grid : Book → ℤ → ℤ → ℤ → Result (Unit {0}) Refusal
entering_grid b block hz100 price = grid_rule b.opened block hz100 price

abbrev pub entering_reading : Book → ℤ → ℤ → ℤ → ℤ → ℤ → Result (Unit {0}) Refusal
entering_reading b member block scheduled metered available =
    reading_rule b.opened b.count (kind_of_member b member) member block scheduled metered available

abbrev pub read_by : Book → ℤ → ℤ → ℤ → ℤ → ℤ → Book
read_by b member block scheduled metered available =
    with_member b (unsigned_abs member) (with_reading (unsigned_abs block) (reading_entry scheduled metered available))

abbrev pub entering_amount : Book → ℤ → ℤ → Result (Unit {0}) Refusal
entering_amount b member paise = amount_rule b.opened b.count (kind_of_member b member) member paise

abbrev pub amount_by : Book → ℤ → ℤ → Book
amount_by b member paise = with_member b (unsigned_abs member) (with_amount (money paise))

abbrev pub dropping : Book → Result (Unit {0}) Refusal
dropping b = drop_rule b.opened

-- the day is over, and its entries stay until the next opening
abbrev pub ended : Book → Book
ended b = record {
  members = b.members;
  count = b.count;
  grid = b.grid;
  day = b.day;
  opened = false;
  accounts = b.accounts;
  cash = b.cash;
}

-- the book with other accounts and cash, and all else as it was
abbrev pub with_money : Book → List Account → Paise → Book
with_money b accounts cash = record {
  members = b.members;
  count = b.count;
  grid = b.grid;
  day = b.day;
  opened = b.opened;
  accounts = record { table = accounts };
  cash = cash;
}

-- so much more on an account and in the cash
abbrev pub paid : Book → ℕ → ℤ → ℤ → Book
paid b place more cash-more =
    with_money b (added b.accounts.table place more) (money (b.cash.paise +ℤ cash-more))

abbrev pub paying_in : Book → ℤ → ℤ → Result (Unit {0}) Refusal
paying_in b account paise = pay_in_rule b.count account paise (sum_at b.accounts.table (unsigned_abs account))

abbrev pub paid_in : Book → ℤ → ℤ → Book
paid_in b account paise = paid b (unsigned_abs account) (neg_ℤ paise) paise

abbrev pub paying_out : Book → ℤ → ℤ → Result (Unit {0}) Refusal
paying_out b account paise =
    pay_out_rule b.count account paise (sum_at b.accounts.table (unsigned_abs account)) b.cash.paise

abbrev pub paid_out : Book → ℤ → ℤ → Book
paid_out b account paise = paid b (unsigned_abs account) paise (neg_ℤ paise)

abbrev pub asking : Book → ℤ → Result Paise Refusal
asking b account = account_rule b.count account (sum_at b.accounts.table (unsigned_abs account))

-- the day is over, and each line stands on its account
abbrev pub closed_with : Book → List Record → Book
closed_with b rs = record {
  members = b.members;
  count = b.count;
  grid = b.grid;
  day = b.day;
  opened = false;
  accounts = record { table = posted b.accounts.table rs };
  cash = b.cash;
}

-- a day is closed by its entries, by the records that were given, and by what its charges come to
abbrev pub settling : (Facts → ℤ) → Book → ℕ → Result (Unit {0}) Refusal
settling m b room =
    settle_rule (all_entered b.grid (members_of b)) room (too_much (charges_of m b.grid (members_of b)))

abbrev pub closing_of : (Facts → ℤ) → Book → ℕ → Result (Unit {0}) Refusal
closing_of m b room =
    close_rule b.opened (all_entered b.grid (members_of b)) room (too_much (charges_of m b.grid (members_of b)))

-- the records of the day, by what the pool's tariff and rule mean
abbrev pub records_of : (Facts → ℤ) → (ℕ → List ℕ → List ℕ) → Book → List Record
records_of m g b = day_records m g b.grid (members_of b)
