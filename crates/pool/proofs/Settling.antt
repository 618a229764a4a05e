-- A sound book's day is settled exactly where all its entries are there. Assumes nothing.
use Rattle.std.proofs.Common.{◌≡◌, ℕ, suc, ◌-◌, ◌<◌, Bool, true, false, cond, ◌&&◌, ◌||◌, ltb, List, [], ◌∷◌, length, get_or, take, ℤ, is_some, Some, None, Ok, Err, Option, Result, sym, refl, ap, ◌∙◌, subst, inl, inr, arith}
use borrow.Rule.Slice.PartMut.{mid_of}
use Rattle.std.specs.Result.{IsErrAnd}
use native.Mathlib.Nat.{sub-zero}
use Rattle.std.specs.Option.{option_map, option_zip}
use Rattle.std.specs.List.{list_all}
use Rattle.std.proofs.lemmas.List.{get_or-take, get_or_past, length-take-le}
use Rattle.std.proofs.lemmas.Bool.{cases_lt, le-ltb}
use Rattle.facts.specs.Facts.{Facts}
use Rattle.facts.specs.declared.kinds.Kind.{Kind}
use Rattle.member_day.specs.Entries.{facts_at, day_facts}
use Rattle.member_day.specs.declared.entries.GridEntry.{GridEntry}
use Rattle.member_day.specs.declared.entries.ReadingEntry.{ReadingEntry}
use Rattle.sharing.specs.Shares.{too_much}
use Rattle.day.specs.Dues.{charges_of, complete, entered, entered_as}
use Rattle.day.specs.Members.{most_members, member_at, nobody}
use Rattle.day.specs.Records.{closing, record_count, short}
use Rattle.day.specs.declared.member.Member.{Member}
use Rattle.day.specs.declared.member.MemberKind.{MemberKind}
use Rattle.day.specs.declared.member.MemberKind.TheVariants.{Metered, Regional}
use Rattle.day.specs.declared.unclosed.Unclosed.{Unclosed}
use Rattle.day.specs.declared.unclosed.Unclosed.TheVariants.{Missing, Short, TooMuch}
use Rattle.pool.specs.Calls.{settling}
use Rattle.pool.specs.Rules.{refusal_of, settle_rule, unless}
use Rattle.pool.specs.Sound.{Sound, grid_fine, reading_fine}
use Rattle.pool.specs.Tables.{all_entered, given_by, members_of}
use Rattle.pool.specs.declared.book.Book.{Book}
use Rattle.pool.specs.declared.refusal.Refusal.{Refusal}
use Rattle.pool.specs.declared.refusal.Refusal.TheVariants.{TooFewRecords, SideTooLarge}

-- the part of a slice that is cut at its start
pub part_is : {X : Type 0} (n : ℕ) (xs : List X) → mid_of 0 (n - 0) xs ≡ take n xs
part_is n xs = ap (λ k. take k xs) (sub-zero n)

block_given : (k : Kind) (r : Option ReadingEntry) (g : Option GridEntry) → reading_fine (Metered k) r ≡ true → grid_fine g ≡ true → is_some (facts_at k r g) ≡ (is_some r && is_some g)
block_given k None g h j = refl
block_given k (Some r) None h j = refl
block_given k (Some r) (Some g) h j = rw (h, j) refl

both_some : {X Y Z : Type 0} (f : X × Y → Z) (x : Option X) (y : Option Y) → is_some (option_map f (option_zip x y)) ≡ (is_some x && is_some y)
both_some f None y = refl
both_some f (Some x) None = refl
both_some f (Some x) (Some y) = refl

four : (a b c d : Bool) → ((a && b) && (c && d)) ≡ ((a && c) && (b && d))
four true true c d = refl
four true false true d = refl
four true false false d = refl
four false b c d = refl

-- facts for every block exactly where every reading and every grid row is there
facts_given : (k : Kind) (rs : List (Option ReadingEntry)) (gs : List (Option GridEntry)) → length rs ≡ length gs →
    ((i : ℕ) → reading_fine (Metered k) (get_or rs i None) ≡ true) → ((i : ℕ) → grid_fine (get_or gs i None) ≡ true) →
    is_some (day_facts k rs gs) ≡ (list_all is_some rs && list_all is_some gs)
facts_given k [] [] n h j = refl
facts_given k [] (g ∷ gs) n h j = absurd (omega arith)
facts_given k (r ∷ rs) [] n h j = absurd (omega arith)
facts_given k (r ∷ rs) (g ∷ gs) n h j =
    both_some _ (facts_at k r g) (day_facts k rs gs)
    ∙ (ap (λ x. x && is_some (day_facts k rs gs)) (block_given k r g (h 0) (j 0))
    ∙ (ap (λ x. (is_some r && is_some g) && x) (facts_given k rs gs (omega arith) (λ i. h (suc i)) (λ i. j (suc i)))
    ∙ four (is_some r) (is_some g) (list_all is_some rs) (list_all is_some gs)))

and_true : (x : Bool) → (x && true) ≡ x
and_true true = refl
and_true false = refl

-- a member's entries, where every grid row is there
entered_given : (gs : List (Option GridEntry)) (kind : MemberKind) (m : Member) → list_all is_some gs ≡ true → ((i : ℕ) → grid_fine (get_or gs i None) ≡ true) →
    length m.readings ≡ length gs → ((i : ℕ) → reading_fine kind (get_or m.readings i None) ≡ true) → entered_as gs kind m ≡ given_by kind m
entered_given gs (Metered k) m all j n h = facts_given k m.readings gs n h j ∙ (ap (λ x. list_all is_some m.readings && x) all ∙ and_true (list_all is_some m.readings))
entered_given gs Regional m all j n h = refl

all_members : (gs : List (Option GridEntry)) (ms : List Member) → list_all is_some gs ≡ true → ((i : ℕ) → grid_fine (get_or gs i None) ≡ true) →
    ((i : ℕ) → i < length ms → length (member_at ms i).readings ≡ length gs) →
    ((i k : ℕ) → reading_fine (member_at ms i).kind (get_or (member_at ms i).readings k None) ≡ true) →
    list_all (entered gs) ms ≡ list_all (λ m. given_by m.kind m) ms
all_members gs [] all j n h = refl
all_members gs (m ∷ ms) all j n h =
    ap (λ x. x && list_all (entered gs) ms) (entered_given gs m.kind m all j (n 0 (omega arith)) (h 0))
    ∙ ap (λ x. given_by m.kind m && x) (all_members gs ms all j (λ i lt. n (suc i) (omega arith)) (λ i. h (suc i)))

by_first : (x y z : Bool) → (x ≡ true → y ≡ z) → (x && y) ≡ (x && z)
by_first true y z e = e refl
by_first false y z e = refl

pub complete_is : (b : Book) → Sound b → complete b.grid (members_of b) ≡ all_entered b.grid (members_of b)
complete_is b s =
    let ms = members_of b in
    let len : length (members_of b) ≡ b.count = length-take-le b.count b.members (omega (arith, s.few, s.places)) in
    let here : (i : ℕ) → i < b.count → member_at (members_of b) i ≡ member_at b.members i = λ i lt. get_or-take b.count b.members i nobody lt in
    by_first (list_all is_some b.grid) (list_all (entered b.grid) ms) (list_all (λ m. given_by m.kind m) ms)
    (λ all. all_members b.grid ms all s.grid_rows
    (λ i lt. ap (λ m. length m.readings) (here i (omega arith)) ∙ (s.long i (omega (arith, s.few)) ∙ sym s.rows))
    (λ i k. elim (cases_lt i b.count) [
      | inl lt ↦ subst (λ m. reading_fine m.kind (get_or m.readings k None) ≡ true) (sym (here i lt)) (s.fine i k)
      | inr past ↦ subst (λ m. reading_fine m.kind (get_or m.readings k None) ≡ true) (sym (get_or_past ms i nobody (omega arith))) refl
    ]))

or_false : (x y : Bool) → y ≡ false → (x || y) ≡ x
or_false true y e = refl
or_false false y e = e

pub short_is : (b : Book) (room : ℕ) → Sound b → short (members_of b) room ≡ ltb room record_count
short_is b room s =
    let len : length (members_of b) ≡ b.count = length-take-le b.count b.members (omega (arith, s.few, s.places)) in
    or_false (ltb room record_count) (ltb most_members (length (members_of b))) (le-ltb most_members (length (members_of b)) (omega (arith, s.few)))

-- the answer of the day as the pool gives it
abbrev pub refused_as : Result (Unit {0}) Unclosed → Result (Unit {0}) Refusal
refused_as (Ok u) = Ok tt
refused_as (Err unclosed) = Err (refusal_of unclosed)

-- the refusal that an unclosed day is turned into
pub turned : (r : Result (Unit {0}) Refusal) (refusal : Refusal) → IsErrAnd r (λ e. e ≡ refusal) → r ≡ Err refusal
turned (Ok u) refusal h = absurd h
turned (Err e) refusal h = ap Err h

by_few : (few over : Bool) → refused_as (cond few (Err Short) (cond over (Err TooMuch) (Ok tt))) ≡ unless few TooFewRecords (unless over SideTooLarge (Ok tt))
by_few true over = refl
by_few false true = refl
by_few false false = refl

as_rule : (given few over : Bool) (room : ℕ) → few ≡ ltb room record_count → refused_as (cond given (cond few (Err Short) (cond over (Err TooMuch) (Ok tt))) (Err Missing)) ≡ settle_rule given room over
as_rule false few over room e = refl
as_rule true few over room e = by_few few over ∙ ap (λ x. unless x TooFewRecords (unless over SideTooLarge (Ok tt))) e

pub settle_is : (m : Facts → ℤ) (b : Book) (room : ℕ) → Sound b → refused_as (closing m b.grid (members_of b) room) ≡ settling m b room
settle_is m b room s =
    as_rule (complete b.grid (members_of b)) (short (members_of b) room) (too_much (charges_of m b.grid (members_of b))) room (short_is b room s)
    ∙ ap (λ given. settle_rule given room (too_much (charges_of m b.grid (members_of b)))) (complete_is b s)
