-- The answer that the rules give a call, from the journal before it. Assumes nothing.
use Rattle.std.specs.Prelude.{ℕ, List, length, ℤ, Ok, Result, unsigned_abs}
use Rattle.std.specs.Result.{result_map_both}
use Rattle.quantities.specs.declared.paise.Paise.{Paise}
use Rattle.facts.specs.Facts.{Facts}
use Rattle.quantities.specs.Money.{money}
use Rattle.sharing.specs.Shares.{too_much}
use Rattle.day.specs.Dues.{charges_of}
use Rattle.pool.specs.Rules.{enrol_rule, open_rule, grid_rule, reading_rule, amount_rule, close_rule, drop_rule, pay_in_rule, pay_out_rule, account_rule}
use Rattle.pool.specs.Tables.{all_entered}
use Rattle.pool.specs.declared.refusal.Refusal.{Refusal}
use Rattle.journal.specs.Words.{kinds_in, open_in, last_day, grid_in, members_in, kind_named, owed_by, cash_in}
use Rattle.journal.specs.declared.answer.Reply.{Reply}
use Rattle.journal.specs.declared.answer.Reply.TheVariants.{Done, Enrolled, Sum}
use Rattle.journal.specs.declared.call.Call.{Call}
use Rattle.journal.specs.declared.call.Call.TheVariants.{Enrol, Open, GridRow, Reading, Amount, Close, DropDay, PayIn, PayOut, Account, Cash}
use Rattle.journal.specs.declared.entry.Entry.{Entry}

-- the answer of a call that says nothing where it is accepted, or a member's number, or a sum
abbrev pub done : Result (Unit {0}) Refusal → Result Reply Refusal
done r = result_map_both (λ _. Done) (λ refusal. refusal) r

abbrev pub numbered : Result ℕ Refusal → Result Reply Refusal
numbered r = result_map_both Enrolled (λ refusal. refusal) r

abbrev pub summed : Result Paise Refusal → Result Reply Refusal
summed r = result_map_both Sum (λ refusal. refusal) r

abbrev pub answer_in : (Facts → ℤ) → List Entry → Call → Result Reply Refusal
answer_in m J (Enrol kind) = numbered (enrol_rule (open_in J) (length (kinds_in J)) kind)
answer_in m J (Open day) = done (open_rule (open_in J) (last_day J) day)
answer_in m J (GridRow block hz100 price) = done (grid_rule (open_in J) block hz100 price)
answer_in m J (Reading member block scheduled metered available) =
    done (reading_rule (open_in J) (length (kinds_in J)) (kind_named J member) member block scheduled metered available)
answer_in m J (Amount member paise) = done (amount_rule (open_in J) (length (kinds_in J)) (kind_named J member) member paise)
answer_in m J (Close room) =
    done (close_rule (open_in J) (all_entered (grid_in J) (members_in J)) room (too_much (charges_of m (grid_in J) (members_in J))))
answer_in m J DropDay = done (drop_rule (open_in J))
answer_in m J (PayIn account paise) = done (pay_in_rule (length (kinds_in J)) account paise (owed_by J (unsigned_abs account)))
answer_in m J (PayOut account paise) =
    done (pay_out_rule (length (kinds_in J)) account paise (owed_by J (unsigned_abs account)) (cash_in J))
answer_in m J (Account account) = summed (account_rule (length (kinds_in J)) account (owed_by J (unsigned_abs account)))
answer_in m J Cash = Ok (Sum (money (cash_in J)))
