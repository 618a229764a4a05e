-- A close that is lent seventeen records or fewer. Assumes nothing.
use Rattle.std.proofs.Common.{◌≡◌, ℕ, ◌≤◌, min, Bool, true, false, cond, ltb, List, [], ◌++◌, length, take, drop, ℤ, is_ok, sym, refl, ap, ◌∙◌, inl, inr, arith}
use Rattle.std.proofs.lemmas.List.{take_all, drop_all, append-nil, take-append-drop}
use Rattle.std.proofs.lemmas.Bool.{cases_lt, lt-ltb, le-ltb, false≢true}
use Rattle.facts.specs.Facts.{Facts}
use Rattle.sharing.specs.Shares.{too_much}
use Rattle.day.specs.Dues.{charges_of}
use Rattle.day.specs.Records.{record_count}
use Rattle.day.specs.declared.record.Record.{Record}
use Rattle.pool.specs.Calls.{closing_of}
use Rattle.pool.specs.Rules.{close_rule}
use Rattle.pool.specs.Tables.{all_entered, members_of}
use Rattle.pool.specs.declared.book.Book.{Book}

-- room for more than seventeen is as good as for seventeen
held : (room : ℕ) → ltb (min room record_count) record_count ≡ ltb room record_count
held room = elim (cases_lt room record_count) [
  | inl lt ↦ lt-ltb (min room record_count) record_count (omega arith) ∙ sym (lt-ltb room record_count lt)
  | inr le ↦ le-ltb (min room record_count) record_count (omega arith) ∙ sym (le-ltb room record_count le)
]

rule_held : (opened given over : Bool) (room : ℕ) → close_rule opened given (min room record_count) over ≡ close_rule opened given room over
rule_held opened given over room = rw held refl

pub closing_held : (m : Facts → ℤ) (b : Book) (room : ℕ) → closing_of m b (min room record_count) ≡ closing_of m b room
closing_held m b room = rule_held b.opened (all_entered b.grid (members_of b)) (too_much (charges_of m b.grid (members_of b))) room

rule_room : (opened given over : Bool) (room : ℕ) → is_ok (close_rule opened given room over) ≡ true → record_count ≤ room
rule_room false given over room h = absurd (false≢true h)
rule_room true false over room h = absurd (false≢true h)
rule_room true true over room h = elim (cases_lt room record_count) [
  | inl lt ↦ let e : ltb room record_count ≡ true = lt-ltb room record_count lt in absurd (false≢true (rw e at h))
  | inr le ↦ le
]

pub closing_room : (m : Facts → ℤ) (b : Book) (room : ℕ) → is_ok (closing_of m b room) ≡ true → record_count ≤ room
closing_room m b room h = rule_room b.opened (all_entered b.grid (members_of b)) (too_much (charges_of m b.grid (members_of b))) room h

-- what the records are after a close that was lent the first k of them
pub lent_records : (rs filled : List Record) (k room : ℕ) (ok : Bool) → length rs ≡ record_count → k ≡ min room record_count → (ok ≡ true → record_count ≤ room) →
    cond ok (filled ++ drop record_count (take k rs)) (take k rs) ++ drop k rs ≡ cond ok (filled ++ drop record_count rs) rs
lent_records rs filled k room true n e enough =
    let le = enough refl in
    let all : take k rs ≡ rs = take_all k rs (omega arith) in
    let none : drop k rs ≡ [] = drop_all k rs (omega arith) in
    ap (λ l. (filled ++ drop record_count l) ++ drop k rs) all ∙ (ap (λ l. (filled ++ drop record_count rs) ++ l) none ∙ append-nil (filled ++ drop record_count rs))
lent_records rs filled k room false n e enough = take-append-drop k rs
