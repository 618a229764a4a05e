-- Calls and answers as numbers. Assumes nothing.
use Rattle.std.specs.Prelude.{◌≡◌, ℕ, min, cond, List, [], ◌∷◌, ℤ, pos, negsuc, Some, None, Option, Ok, Err, Result, ◌==◌}
use Rattle.day.specs.declared.record.Record.{Record}
use Rattle.facts.specs.Facts.{Facts}
use Rattle.host_calls.specs.Filled.{Room, put_numbers, put_rows}
use Rattle.journal.specs.Law.{Stands}
use Rattle.journal.specs.Words.{closed_day}
use Rattle.journal.specs.declared.entry.Entry.{Entry}
use Rattle.pool.specs.declared.book.Book.{Book}
use Rattle.journal.specs.declared.answer.Reply.TheVariants.{Done, Enrolled, Sum}
use Rattle.journal.specs.declared.answer.Reply.{Reply}
use Rattle.journal.specs.declared.call.Call.TheVariants.{Enrol, Open, GridRow, Reading, Amount, Close, DropDay, PayIn, PayOut, Account, Cash}
use Rattle.journal.specs.declared.call.Call.{Call}
use Rattle.pool.specs.Refusals.{refusal_number}
use Rattle.pool.specs.declared.refusal.Refusal.{Refusal}

-- the records that a close lends
abbrev pub lending : ℤ → ℕ
lending (pos n) = n
lending (negsuc n) = 0

-- the call of a code and five numbers, none where no call has the code
abbrev pub coded_call : ℤ → ℤ → ℤ → ℤ → ℤ → ℤ → Option Call
coded_call (negsuc n) a b c d e = None
coded_call (pos n) a b c d e =
    cond (n == 1) (Some (Enrol a)) (cond (n == 2) (Some (Open a)) (cond (n == 3) (Some (GridRow a b c)) (cond (n == 4) (Some (Reading a b c d e))
    (cond (n == 5) (Some (Amount a b)) (cond (n == 6) (Some (Close (lending a))) (cond (n == 7) (Some DropDay) (cond (n == 8) (Some (PayIn a b))
    (cond (n == 9) (Some (PayOut a b)) (cond (n == 10) (Some (Account a)) (cond (n == 11) (Some Cash) None))))))))))

-- an answer as two numbers
abbrev pub answer_numbers : Result Reply Refusal → List ℤ
answer_numbers (Ok Done) = pos 0 ∷ pos 0 ∷ []
answer_numbers (Ok (Enrolled n)) = pos 1 ∷ pos (min n 9223372036854775807) ∷ []
answer_numbers (Ok (Sum s)) = pos 2 ∷ s.paise ∷ []
answer_numbers (Err r) = pos 3 ∷ pos (refusal_number r) ∷ []

abbrev pub record_numbers : Record → List ℤ
record_numbers r = r.base.paise ∷ r.surcharge.paise ∷ r.line.paise ∷ []

-- what is written of a call: its answer, and the records of the day that it closed
abbrev pub put_entry : Room ℤ → Entry → Room ℤ
put_entry o e =
    cond (closed_day e) (put_rows record_numbers (put_numbers o (answer_numbers e.answer)) e.records) (put_numbers o (answer_numbers e.answer))

-- the call was performed on a pool with the book b, left w, and was noted; o and p are the room before and after
pub record Performed (m : Facts → ℤ) (g : ℕ → List ℕ → List ℕ) (call : Call) (b w : Book) (o p : Room ℤ) : Type 0 where
  pub entry : Entry
  pub is : entry.call ≡ call
  pub stands : (J : List Entry) → Stands m g J b → Stands m g (entry ∷ J) w
  pub numbers : put_entry o entry ≡ p
