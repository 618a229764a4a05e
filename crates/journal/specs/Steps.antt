-- What one call on a book comes to, for the runner's own steps. Assumes nothing.
use Rattle.std.specs.Prelude.{ℕ, cond, List, ◌++◌, drop, ℤ, is_ok, Ok, Result}
use Rattle.quantities.specs.declared.paise.Paise.{Paise}
use Rattle.facts.specs.Facts.{Facts}
use Rattle.day.specs.Records.{record_count}
use Rattle.day.specs.declared.record.Record.{Record}
use Rattle.pool.specs.Calls.{enrolling, enrolled_as, opening, opened_on, entering_grid, with_grid, entering_reading, read_by, entering_amount, amount_by, closing_of, closed_with, records_of, dropping, ended, paying_in, paid_in, paying_out, paid_out, asking}
use Rattle.pool.specs.declared.book.Book.{Book}
use Rattle.pool.specs.declared.refusal.Refusal.{Refusal}
use Rattle.journal.specs.Answers.{done, numbered, summed}
use Rattle.journal.specs.declared.answer.Reply.{Reply}
use Rattle.journal.specs.declared.call.Call.{Call}
use Rattle.journal.specs.declared.call.Call.TheVariants.{Enrol, Open, GridRow, Reading, Amount, Close, DropDay, PayIn, PayOut, Account, Cash}

-- the answer, the book after the call, and what it leaves of the records that it was lent
pub record Outcome : Type 0 where
  pub answer : Result Reply Refusal
  pub book : Book
  pub records : List Record → List Record

-- a call that answers a member's number, nothing, or a sum; the book is changed where it is accepted
abbrev pub numbers : Result ℕ Refusal → Book → Book → Outcome
numbers r changed b = record { answer = numbered r; book = cond (is_ok r) changed b; records = λ rs. rs }

abbrev pub does : Result (Unit {0}) Refusal → Book → Book → Outcome
does r changed b = record { answer = done r; book = cond (is_ok r) changed b; records = λ rs. rs }

abbrev pub fills : Result (Unit {0}) Refusal → List Record → Book → Book → Outcome
fills r filled changed b = record { answer = done r; book = cond (is_ok r) changed b; records = λ rs. cond (is_ok r) (filled ++ drop record_count rs) rs }

abbrev pub asks : Result Paise Refusal → Book → Outcome
asks r b = record { answer = summed r; book = b; records = λ rs. rs }

abbrev pub outcome : (Facts → ℤ) → (ℕ → List ℕ → List ℕ) → Book → Call → Outcome
outcome m g b (Enrol kind) = numbers (enrolling b kind) (enrolled_as b kind) b
outcome m g b (Open day) = does (opening b day) (opened_on b day) b
outcome m g b (GridRow block hz100 price) = does (entering_grid b block hz100 price) (with_grid b block hz100 price) b
outcome m g b (Reading member block scheduled metered available) =
    does (entering_reading b member block scheduled metered available) (read_by b member block scheduled metered available) b
outcome m g b (Amount member paise) = does (entering_amount b member paise) (amount_by b member paise) b
outcome m g b (Close room) = fills (closing_of m b room) (records_of m g b) (closed_with b (records_of m g b)) b
outcome m g b DropDay = does (dropping b) (ended b) b
outcome m g b (PayIn account paise) = does (paying_in b account paise) (paid_in b account paise) b
outcome m g b (PayOut account paise) = does (paying_out b account paise) (paid_out b account paise) b
outcome m g b (Account account) = asks (asking b account) b
outcome m g b Cash = asks (Ok b.cash) b
