-- The seventeen records of a day, and which days are refused. Assumes nothing.
use Rattle.std.specs.Prelude.{ℕ, Bool, cond, ◌||◌, List, [], ◌∷◌, ◌++◌, map, length, ℤ, pos, Ok, Err, Option, Result, nat_lt, slice_index_or}
use Rattle.std.specs.List.{range_with_len}
use Rattle.facts.specs.Facts.{Facts}
use Rattle.member_day.specs.declared.due.Due.{Due}
use Rattle.member_day.specs.declared.entries.GridEntry.{GridEntry}
use Rattle.quantities.specs.declared.paise.Paise.{Paise}
use Rattle.sharing.specs.Laws.{line_at}
use Rattle.sharing.specs.Shares.{lines_of, reserve, too_much}
use Rattle.quantities.specs.Money.{money}
use Rattle.sharing.specs.declared.charge.Unshared.{Unshared}
use Rattle.sharing.specs.declared.charge.Unshared.TheVariants as unshared
use Rattle.day.specs.Dues.{due_of, charges_of, complete}
use Rattle.day.specs.Members.{most_members}
use Rattle.day.specs.declared.member.Member.{Member}
use Rattle.day.specs.declared.record.Record.{Record}
use Rattle.day.specs.declared.unclosed.Unclosed.{Unclosed}
use Rattle.day.specs.declared.unclosed.Unclosed.TheVariants.{Missing, Short, TooMuch}

-- the records of a day: one for each place of a member, and the reserve's
abbrev pub record_count : ℕ
record_count = 17

abbrev pub no_due : Due
no_due = record { base = money (pos 0); surcharge = money (pos 0) }

abbrev pub record_of : Due → Paise → Record
record_of d line = record { base = d.base; surcharge = d.surcharge; line = line }

-- zeros
abbrev pub nothing : Record
nothing = record_of no_due (money (pos 0))

-- the record of a place, zeros where nobody is enrolled
abbrev pub record_at : List Due → List Paise → ℕ → Record
record_at ds ls k = record_of (slice_index_or ds k no_due) (line_at ls k)

-- the members' places, then the reserve's line alone
unfoldable pub records_by : List Due → List Paise → Paise → List Record
records_by ds ls reserve-line = map (record_at ds ls) (range_with_len 0 most_members) ++ (record_of no_due reserve-line ∷ [])

-- the records, by what a tariff and a parting rule mean
abbrev pub day_records : (Facts → ℤ) → (ℕ → List ℕ → List ℕ) → List (Option GridEntry) → List Member → List Record
day_records m g gs ms = records_by (map (due_of m gs) ms) (lines_of g (charges_of m gs ms)) (reserve (charges_of m gs ms))

-- fewer records than a day has were given, or there are more members than places
abbrev pub short : List Member → ℕ → Bool
short ms records = nat_lt records record_count || nat_lt most_members (length ms)

-- the answer: the first that fits of an entry missing, too few records, and a side above the limit
abbrev pub closing : (Facts → ℤ) → List (Option GridEntry) → List Member → ℕ → Result (Unit {0}) Unclosed
closing m gs ms records =
    cond (complete gs ms)
    (cond (short ms records) (Err Short) (cond (too_much (charges_of m gs ms)) (Err TooMuch) (Ok tt)))
    (Err Missing)

-- what a day that is not shared out is refused with
abbrev pub unclosed_by : Unshared → Unclosed
unclosed_by unshared.NoRoom = Short
unclosed_by unshared.TooMuch = TooMuch
