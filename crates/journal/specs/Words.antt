-- Words for a journal, the newest entry first. Assumes nothing.
use Rattle.std.specs.Prelude.{ℕ, Bool, true, false, cond, ◌&&◌, List, [], ◌∷◌, ◌++◌, map, reverse, length, ℤ, pos, ◌+ℤ◌, ◌-ℤ◌, Some, None, Option, Ok, Err, Result, ◌==◌, slice_index_or, unsigned_abs}
use Rattle.std.specs.List.{range_with_len}
use Rattle.quantities.specs.declared.paise.Paise.{Paise}
use Rattle.member_day.specs.Entries.{blocks}
use Rattle.member_day.specs.declared.entries.GridEntry.{GridEntry}
use Rattle.member_day.specs.declared.entries.ReadingEntry.{ReadingEntry}
use Rattle.day.specs.declared.member.Member.{Member}
use Rattle.day.specs.declared.member.MemberKind.{MemberKind}
use Rattle.day.specs.declared.member.MemberKind.TheVariants.{Regional}
use Rattle.day.specs.declared.record.Record.{Record}
use Rattle.pool.specs.Standing.{line_at}
use Rattle.journal.specs.Deeds.{Deed, Mark, Item, Payment, deed, opens, closes, drops, grid_row, reading, amount}
use Rattle.pool.specs.declared.refusal.Refusal.{Refusal}
use Rattle.journal.specs.declared.answer.Reply.{Reply}
use Rattle.journal.specs.declared.entry.Entry.{Entry}

abbrev pub accepted : Result Reply Refusal → Bool
accepted (Ok reply) = true
accepted (Err refusal) = false

-- what all accepted calls did of one kind, the newest first
abbrev pub all_of : {X : Type 0} → (Deed → List X) → List Entry → List X
all_of f [] = []
all_of f (e ∷ J) = cond (accepted e.answer) (f (deed e.call)) [] ++ all_of f J

-- the kinds enrolled, in their order
abbrev pub kinds_in : List Entry → List MemberKind
kinds_in J = reverse (all_of (λ d. d.enrols) J)

-- the kind of the member that a number names
abbrev pub kind_named : List Entry → ℤ → MemberKind
kind_named J member = slice_index_or (kinds_in J) (unsigned_abs member) Regional

-- a day is open where the last mark opened it
abbrev pub open_by : List Mark → Bool
open_by [] = false
open_by (opens day ∷ ms) = true
open_by (closes ∷ ms) = false
open_by (drops ∷ ms) = false

abbrev pub open_in : List Entry → Bool
open_in J = open_by (all_of (λ d. d.marks) J)

-- the number of the day last opened, 0 before the first
abbrev pub day_by : List Mark → ℕ
day_by [] = 0
day_by (opens day ∷ ms) = day
day_by (closes ∷ ms) = day_by ms
day_by (drops ∷ ms) = day_by ms

abbrev pub last_day : List Entry → ℕ
last_day J = day_by (all_of (λ d. d.marks) J)

-- whether the call opened a day, and whether it closed one
abbrev pub opened_by : List Mark → Bool
opened_by [] = false
opened_by (opens day ∷ ms) = true
opened_by (closes ∷ ms) = false
opened_by (drops ∷ ms) = false

abbrev pub closed_by : List Mark → Bool
closed_by [] = false
closed_by (opens day ∷ ms) = false
closed_by (closes ∷ ms) = true
closed_by (drops ∷ ms) = false

abbrev pub opened_day : Entry → Bool
opened_day e = accepted e.answer && opened_by (deed e.call).marks

abbrev pub closed_day : Entry → Bool
closed_day e = accepted e.answer && closed_by (deed e.call).marks

-- what was noted since the last accepted open
abbrev pub since_open : List Entry → List Entry
since_open [] = []
since_open (e ∷ J) = cond (opened_day e) [] (e ∷ since_open J)

-- what was entered since then, the newest first
abbrev pub entered_in : List Entry → List Item
entered_in J = all_of (λ d. d.enters) (since_open J)

-- the first that there is: of items, the last that was entered
abbrev pub or_else : {X : Type 0} → Option X → Option X → Option X
or_else (Some x) o = Some x
or_else None o = o

abbrev pub first_some : {X : Type 0} → (Item → Option X) → List Item → Option X
first_some f [] = None
first_some f (x ∷ xs) = or_else (f x) (first_some f xs)

-- the grid row that an item has for a block, the reading for a member and a block, the amount for a member
abbrev pub grid_for : ℕ → Item → Option GridEntry
grid_for b (grid_row block row) = cond (b == block) (Some row) None
grid_for b (reading member block row) = None
grid_for b (amount member paise) = None

abbrev pub reading_for : ℕ → ℕ → Item → Option ReadingEntry
reading_for m b (grid_row block row) = None
reading_for m b (reading member block row) = cond (m == member && b == block) (Some row) None
reading_for m b (amount member paise) = None

abbrev pub amount_for : ℕ → Item → Option Paise
amount_for m (grid_row block row) = None
amount_for m (reading member block row) = None
amount_for m (amount member paise) = cond (m == member) (Some paise) None

-- the entries of the day that was opened last
abbrev pub last_grid : List Entry → ℕ → Option GridEntry
last_grid J b = first_some (grid_for b) (entered_in J)

abbrev pub last_reading : List Entry → ℕ → ℕ → Option ReadingEntry
last_reading J m b = first_some (reading_for m b) (entered_in J)

abbrev pub last_amount : List Entry → ℕ → Option Paise
last_amount J m = first_some (amount_for m) (entered_in J)

-- the same as the tables of a day: a row for each block, and each member with its entries
abbrev pub grid_in : List Entry → List (Option GridEntry)
grid_in J = map (last_grid J) (range_with_len 0 blocks)

abbrev pub member_in : List Entry → ℕ → Member
member_in J m = record {
  kind = slice_index_or (kinds_in J) m Regional;
  amount = last_amount J m;
  readings = map (last_reading J m) (range_with_len 0 blocks);
}

abbrev pub members_in : List Entry → List Member
members_in J = map (member_in J) (range_with_len 0 (length (kinds_in J)))

-- the records of all closed days
abbrev pub closed_in : List Entry → List (List Record)
closed_in [] = []
closed_in (e ∷ J) = cond (closed_day e) (e.records ∷ []) [] ++ closed_in J

-- the lines of an account on these days
abbrev pub lines_of : ℕ → List (List Record) → ℤ
lines_of k [] = pos 0
lines_of k (rs ∷ days) = line_at rs k +ℤ lines_of k days

-- what these payments come to, of one account and of all
abbrev pub paid_of : ℕ → List Payment → ℤ
paid_of k [] = pos 0
paid_of k (p ∷ ps) = cond (k == p.account) p.paise (pos 0) +ℤ paid_of k ps

abbrev pub paid_together : List Payment → ℤ
paid_together [] = pos 0
paid_together (p ∷ ps) = p.paise +ℤ paid_together ps

-- an account owes its lines on closed days, less its accepted payments in, plus its accepted payments out
abbrev pub owed_by : List Entry → ℕ → ℤ
owed_by J k = (lines_of k (closed_in J) -ℤ paid_of k (all_of (λ d. d.pays_in) J)) +ℤ paid_of k (all_of (λ d. d.pays_out) J)

-- the cash is all accepted payments in less all accepted payments out
abbrev pub cash_in : List Entry → ℤ
cash_in J = paid_together (all_of (λ d. d.pays_in) J) -ℤ paid_together (all_of (λ d. d.pays_out) J)
