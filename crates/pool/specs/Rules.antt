-- When a call is refused, and with what: the first sentence that fits. Each rule goes by facts alone, so that it holds of
-- a pool and of a journal of calls alike. Assumes nothing.
use Rattle.std.specs.Prelude.{ℕ, Bool, false, cond, not, ◌&&◌, ◌||◌, ℤ, pos, negsuc, neg_ℤ, is_some, Ok, Err, Result, ◌==◌, int_lt, nat_le, nat_lt, unsigned_abs}
use Rattle.quantities.specs.Limits.{within, within_either, most_money}
use Rattle.quantities.specs.declared.paise.Paise.{Paise}
use Rattle.facts.specs.Refusals.{reading_fits, grid_fits}
use Rattle.facts.specs.declared.kinds.Kind.{Kind}
use Rattle.quantities.specs.Money.{money}
use Rattle.day.specs.Members.{most_members, member_kind_of}
use Rattle.day.specs.Records.{record_count}
use Rattle.day.specs.declared.member.MemberKind.{MemberKind}
use Rattle.day.specs.declared.member.MemberKind.TheVariants.{Metered, Regional}
use Rattle.day.specs.declared.unclosed.Unclosed.{Unclosed}
use Rattle.day.specs.declared.unclosed.Unclosed.TheVariants.{Missing, Short, TooMuch}
use Rattle.pool.specs.declared.refusal.Refusal.{Refusal}
use Rattle.pool.specs.declared.refusal.Refusal.TheVariants.{WrongMoment, NotEnrolled, WrongKind, OutsideLimit, PoolFull, DayNotLater, EntryMissing, TooFewRecords, SideTooLarge, MoreThanDue, MoreThanCash}

-- the account of the reserve, after those of the members
abbrev pub reserve_account : ℕ
reserve_account = 16

-- the last day number, and the last block of a day
abbrev pub most_day : ℕ
most_day = 30000

abbrev pub last_block : ℕ
last_block = 95

-- refused where the sentence fits, else by what follows
abbrev pub unless : {X : Type 0} → Bool → Refusal → Result X Refusal → Result X Refusal
unless fits refusal next = cond fits (Err refusal) next

-- a number of a call is that of an enrolled member, of whom there are so many
abbrev pub enrolled : ℕ → ℤ → Bool
enrolled count (pos n) = nat_lt n count
enrolled count (negsuc n) = false

-- it is the reserve's
abbrev pub is_reserve : ℤ → Bool
is_reserve (pos n) = n == reserve_account
is_reserve (negsuc n) = false

-- a number of a call is that of an account: of a member, or the reserve's
abbrev pub has_account : ℕ → ℤ → Bool
has_account count z = enrolled count z || is_reserve z

-- the member's number where it may enrol
abbrev pub enrol_rule : Bool → ℕ → ℤ → Result ℕ Refusal
enrol_rule opened count kind =
    unless opened WrongMoment
    (unless (not (is_some (member_kind_of kind))) WrongKind
    (unless (nat_le most_members count) PoolFull (Ok count)))

abbrev pub open_rule : Bool → ℕ → ℤ → Result (Unit {0}) Refusal
open_rule opened last day =
    unless opened WrongMoment
    (unless (not (within 1 most_day day)) OutsideLimit
    (unless (nat_le (unsigned_abs day) last) DayNotLater (Ok tt)))

abbrev pub grid_rule : Bool → ℤ → ℤ → ℤ → Result (Unit {0}) Refusal
grid_rule opened block hz100 price =
    unless (not opened) WrongMoment
    (unless (not (within 0 last_block block && grid_fits hz100 price)) OutsideLimit (Ok tt))

-- the place and the kind of an enrolled member that has readings: a regional amount has none
abbrev pub metered_at : ℕ → MemberKind → Result (ℕ × Kind) Refusal
metered_at place (Metered k) = Ok (place, k)
metered_at place Regional = Err WrongKind

abbrev pub metered_member : ℕ → MemberKind → ℤ → Result (ℕ × Kind) Refusal
metered_member count kind member =
    unless (not (enrolled count member)) NotEnrolled (metered_at (unsigned_abs member) kind)

-- the place of an enrolled member that has an amount: only a regional amount has one
abbrev pub regional_at : ℕ → MemberKind → Result ℕ Refusal
regional_at place (Metered k) = Err WrongKind
regional_at place Regional = Ok place

abbrev pub regional_member : ℕ → MemberKind → ℤ → Result ℕ Refusal
regional_member count kind member =
    unless (not (enrolled count member)) NotEnrolled (regional_at (unsigned_abs member) kind)

-- what follows where the member was found
abbrev pub then_by : {X Y : Type 0} → Result X Refusal → (X → Result Y Refusal) → Result Y Refusal
then_by (Ok x) next = next x
then_by (Err refusal) next = Err refusal

-- by the kind of the member that is named
abbrev pub reading_rule : Bool → ℕ → MemberKind → ℤ → ℤ → ℤ → ℤ → ℤ → Result (Unit {0}) Refusal
reading_rule opened count kind member block scheduled metered available =
    unless (not opened) WrongMoment
    (then_by (metered_member count kind member) (λ found.
    unless (not (within 0 last_block block && reading_fits found.1 scheduled metered available)) OutsideLimit (Ok tt)))

abbrev pub amount_rule : Bool → ℕ → MemberKind → ℤ → ℤ → Result (Unit {0}) Refusal
amount_rule opened count kind member paise =
    unless (not opened) WrongMoment
    (then_by (regional_member count kind member) (λ _.
    unless (not (within_either most_money paise)) OutsideLimit (Ok tt)))

-- the refusal of a day that its entries, the records given or its charges leave unclosed
abbrev pub refusal_of : Unclosed → Refusal
refusal_of Missing = EntryMissing
refusal_of Short = TooFewRecords
refusal_of TooMuch = SideTooLarge

-- by whether all entries of the day are there, how many records were given, and whether a side of the day is too large
abbrev pub settle_rule : Bool → ℕ → Bool → Result (Unit {0}) Refusal
settle_rule given room too_large =
    unless (not given) EntryMissing
    (unless (nat_lt room record_count) TooFewRecords
    (unless too_large SideTooLarge (Ok tt)))

abbrev pub close_rule : Bool → Bool → ℕ → Bool → Result (Unit {0}) Refusal
close_rule opened given room too_large = unless (not opened) WrongMoment (settle_rule given room too_large)

abbrev pub drop_rule : Bool → Result (Unit {0}) Refusal
drop_rule opened = unless (not opened) WrongMoment (Ok tt)

-- by what the account owes: a payment in takes no more
abbrev pub pay_in_rule : ℕ → ℤ → ℤ → ℤ → Result (Unit {0}) Refusal
pay_in_rule count account paise owed =
    unless (not (has_account count account)) NotEnrolled
    (unless (not (within 1 most_money paise)) OutsideLimit
    (unless (int_lt owed paise) MoreThanDue (Ok tt)))

-- by what is due to the account, which is what it owes with the other sign, and by the cash
abbrev pub pay_out_rule : ℕ → ℤ → ℤ → ℤ → ℤ → Result (Unit {0}) Refusal
pay_out_rule count account paise owed cash =
    unless (not (has_account count account)) NotEnrolled
    (unless (not (within 1 most_money paise)) OutsideLimit
    (unless (int_lt (neg_ℤ owed) paise) MoreThanDue
    (unless (int_lt cash paise) MoreThanCash (Ok tt))))

-- a query answers what the account owes
abbrev pub account_rule : ℕ → ℤ → ℤ → Result Paise Refusal
account_rule count account owed = unless (not (has_account count account)) NotEnrolled (Ok (money owed))
