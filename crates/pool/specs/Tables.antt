-- The tables of a pool, and what one entry leaves of them. Assumes nothing.
use Rattle.std.specs.Prelude.{ℕ, Bool, false, ◌&&◌, List, map, take, replicate, ℤ, pos, is_some, Some, None, Option, slice_set, unsigned_abs}
use Rattle.std.specs.List.{list_all}
use Rattle.quantities.specs.declared.paise.Paise.{Paise}
use Rattle.quantities.specs.Money.{money}
use Rattle.member_day.specs.Entries.{blocks}
use Rattle.member_day.specs.declared.entries.GridEntry.{GridEntry}
use Rattle.member_day.specs.declared.entries.ReadingEntry.{ReadingEntry}
use Rattle.day.specs.Members.{most_members, member_at}
use Rattle.day.specs.Records.{record_count}
use Rattle.day.specs.declared.member.Member.{Member}
use Rattle.day.specs.declared.member.MemberKind.{MemberKind}
use Rattle.day.specs.declared.member.MemberKind.TheVariants.{Metered, Regional}
use Rattle.pool.specs.Standing.{owing}
use Rattle.pool.specs.declared.book.Book.{Book}

-- the rows of plain numbers that calls enter
abbrev pub reading_entry : ℤ → ℤ → ℤ → ReadingEntry
reading_entry scheduled metered available =
    record { scheduled = unsigned_abs scheduled; metered = unsigned_abs metered; available = unsigned_abs available }

abbrev pub grid_entry : ℤ → ℤ → GridEntry
grid_entry hz100 price = record { hz100 = unsigned_abs hz100; price = unsigned_abs price }

-- no entry in any block, a member with no entries, and a place that nobody has taken
abbrev pub no_entries : {X : Type 0} → List (Option X)
no_entries = replicate blocks None

abbrev pub without_entries : MemberKind → Member
without_entries k = record { kind = k; amount = None; readings = no_entries }

abbrev pub vacant : Member
vacant = without_entries Regional

-- a pool with no member and no day, accounts and cash at 0
abbrev pub fresh : Book
fresh = record {
  members = replicate most_members vacant;
  count = 0;
  grid = no_entries;
  day = 0;
  opened = false;
  accounts = record { table = replicate record_count (owing (pos 0)) };
  cash = money (pos 0);
}

-- the members who are enrolled, and their kinds
abbrev pub members_of : Book → List Member
members_of b = take b.count b.members

abbrev pub kinds_of : Book → List MemberKind
kinds_of b = map (λ m. m.kind) (members_of b)

-- the entries that a member of this kind needs are there
abbrev pub given_by : MemberKind → Member → Bool
given_by (Metered k) m = list_all is_some m.readings
given_by Regional m = is_some m.amount

-- every grid row is there, and every reading or regional amount of an enrolled member
abbrev pub all_entered : List (Option GridEntry) → List Member → Bool
all_entered grid ms = list_all is_some grid && list_all (λ m. given_by m.kind m) ms

-- a member as it is, but for one thing
abbrev pub of_kind : MemberKind → Member → Member
of_kind k m = record { kind = k; amount = m.amount; readings = m.readings }

abbrev pub with_reading : ℕ → ReadingEntry → Member → Member
with_reading block r m = record { kind = m.kind; amount = m.amount; readings = slice_set m.readings block (Some r) }

abbrev pub with_amount : Paise → Member → Member
with_amount paise m = record { kind = m.kind; amount = Some paise; readings = m.readings }

abbrev pub cleared : Member → Member
cleared m = without_entries m.kind

-- one member changed, and all others as they were
abbrev pub changed : List Member → ℕ → (Member → Member) → List Member
changed ms k f = slice_set ms k (f (member_at ms k))
