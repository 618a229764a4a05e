-- Every accepted call leaves a sound book. Assumes nothing.
use Rattle.std.proofs.Common.{◌≡◌, ℕ, ◌-◌, ◌*◌, ◌<◌, ◌≤◌, true, false, cond, List, map, length, get_or, ℤ, pos, ◌+ℤ◌, nat_abs, ◌≤ℤ◌, is_some, Some, None, Option, sym, refl, ap, ◌∙◌, subst, inl, inr, arith}
use Rattle.std.proofs.lemmas.List.{length-set, length-map, get_or-replicate, get_or_past}
use Rattle.std.proofs.lemmas.Bool.{cases_lt, true≢false}
use Rattle.std.proofs.lemmas.Int.{ints}
use Rattle.quantities.specs.Limits.{most_money}
use Rattle.quantities.specs.declared.paise.Paise.{Paise}
use Rattle.quantities.specs.Money.{money}
use Rattle.member_day.specs.Entries.{blocks}
use Rattle.member_day.specs.declared.entries.ReadingEntry.{ReadingEntry}
use Rattle.day.specs.declared.member.Member.{Member}
use Rattle.day.specs.declared.record.Record.{Record}
use Rattle.day.specs.declared.member.MemberKind.{MemberKind}
use Rattle.day.specs.declared.member.MemberKind.TheVariants.{Regional}
use Rattle.pool.specs.Calls.{opened_on, with_money, with_one_more, with_member, paid, closed_with}
use Rattle.day.specs.Members.{most_members}
use Rattle.day.specs.Records.{record_count}
use Rattle.pool.specs.Rules.{most_day}
use Rattle.pool.specs.Sound.{Sound, Postable, days_past, grid_fine, reading_fine}
use Rattle.pool.specs.Standing.{owing, sum_at, total, posted, added, line_at, sum_of_lines}
use Rattle.day.specs.Members.{member_at, nobody}
use Rattle.pool.specs.Tables.{fresh, vacant, no_entries, of_kind, cleared}
use Rattle.pool.specs.declared.accounts.Account.{Account}
use Rattle.pool.specs.declared.book.Book.{Book}
use Rattle.pool.proofs.Members.{changed_at, cleared_at, none_fine}
use Rattle.pool.proofs.Totals.{total_added, within_added, total_within, total_posted, sum_at_posted, length_posted}

-- a table with no entries holds none
none_at : {X : Type 0} (k : ℕ) → get_or (no_entries {X = X}) k None ≡ None
none_at k = elim (cases_lt k blocks) [ inl lt ↦ get_or-replicate blocks k None None lt | inr past ↦ get_or_past no_entries k None past ]

vacant_at : (m : ℕ) → m < most_members → member_at fresh.members m ≡ vacant
vacant_at m lt = get_or-replicate most_members m vacant nobody lt

no_entry_fine : (k : MemberKind) (j : ℕ) → reading_fine k (get_or no_entries j None) ≡ true
no_entry_fine k j = ap (reading_fine k) (none_at j) ∙ none_fine k

-- what holds of nobody and of each member of a table holds at any place
anywhere : (ms : List Member) (m : ℕ) (P : Member → Type 0) → length ms ≡ most_members → P nobody → (m < most_members → P (member_at ms m)) → P (member_at ms m)
anywhere ms m P n past here = elim (cases_lt m most_members) [ inl lt ↦ here lt | inr le ↦ subst P (sym (get_or_past ms m nobody (omega arith))) past ]

-- readings within their limits at any place, none there, and what is not there is within every limit
abbrev FineAt : ℕ → Member → Type 0
FineAt k x = reading_fine x.kind (get_or x.readings k None) ≡ true

abbrev NoneAt : ℕ → Member → Type 0
NoneAt k x = is_some (get_or x.readings k None) ≡ false

fine_none : (kind : MemberKind) (o : Option ReadingEntry) → is_some o ≡ false → reading_fine kind o ≡ true
fine_none kind None e = none_fine kind
fine_none kind (Some r) e = absurd (true≢false e)

pub fresh_sound : Sound fresh
fresh_sound = record {
  few = omega arith;
  places = refl;
  long = λ m lt. ap (λ x. length x.readings) (vacant_at m lt);
  fine = λ m k. anywhere fresh.members m (FineAt k) refl refl (λ lm. subst (FineAt k) (sym (vacant_at m lm)) (no_entry_fine Regional k));
  beyond = λ m k _. anywhere fresh.members m (NoneAt k) refl refl (λ lm. subst (NoneAt k) (sym (vacant_at m lm)) (ap is_some (none_at k)));
  rows = refl;
  grid_rows = λ k. ap grid_fine (none_at k);
  dated = omega arith;
  begun = omega arith;
  full = refl;
  bounded = λ k lt. let e : sum_at fresh.accounts.table k ≡ pos 0 = ap (λ a. a.sum.paise) (get_or-replicate record_count k (owing (pos 0)) (owing (pos 0)) lt) in rw e (omega arith);
  balanced = refl;
  cash_least = omega (arith, ints);
}

pub enrolled_sound : (b : Book) (kind : MemberKind) → Sound b → b.count < most_members → Sound (with_one_more b kind)
enrolled_sound b kind s room =
    let in_table : b.count < length b.members = omega (arith, s.places) in
    let f = of_kind kind in
    record {
      few = omega arith;
      places = length-set b.members b.count (f (member_at b.members b.count)) ∙ s.places;
      long = λ m lt. changed_at b.members b.count f m (λ x. length x.readings ≡ blocks) in_table (λ _. s.long b.count room) (λ _. s.long m lt);
      fine = λ m k. changed_at b.members b.count f m (FineAt k) in_table
          (λ _. fine_none kind (get_or (member_at b.members b.count).readings k None) (s.beyond b.count k (omega arith)))
          (λ _. s.fine m k);
      beyond = λ m k past. changed_at b.members b.count f m (NoneAt k) in_table (λ e. absurd (omega arith)) (λ _. s.beyond m k (omega arith));
      rows = s.rows;
      grid_rows = s.grid_rows;
      dated = s.dated;
      begun = s.begun;
      full = s.full;
      bounded = s.bounded;
      balanced = s.balanced;
      cash_least = s.cash_least;
    }

pub opened_sound : (b : Book) (day : ℤ) → Sound b → b.opened ≡ false → b.day < nat_abs day → nat_abs day ≤ most_day → Sound (opened_on b day)
opened_sound b day s shut later dated = record {
  few = s.few;
  places = length-map b.members cleared ∙ s.places;
  long = λ m lt. ap (λ x. length x.readings) (cleared_at b.members m (omega (arith, s.places)));
  fine = λ m k. anywhere (map cleared b.members) m (FineAt k) (length-map b.members cleared ∙ s.places) refl
      (λ lm. subst (FineAt k) (sym (cleared_at b.members m (omega (arith, s.places)))) (no_entry_fine (member_at b.members m).kind k));
  beyond = λ m k _. anywhere (map cleared b.members) m (NoneAt k) (length-map b.members cleared ∙ s.places) refl
      (λ lm. subst (NoneAt k) (sym (cleared_at b.members m (omega (arith, s.places)))) (ap is_some (none_at k)));
  rows = refl;
  grid_rows = λ k. ap grid_fine (none_at k);
  dated = dated;
  begun = omega arith;
  full = s.full;
  bounded = λ k lt. let w : nat_abs (sum_at b.accounts.table k) ≤ most_money * (b.day - 0) = subst (λ o. nat_abs (sum_at b.accounts.table k) ≤ most_money * (b.day - cond o 1 0)) shut (s.bounded k lt) in omega arith;
  balanced = s.balanced;
  cash_least = s.cash_least;
}

-- one enrolled member changed, whose readings stay as many and within their limits
pub member_sound : (b : Book) (place : ℕ) (f : Member → Member) → Sound b → place < b.count →
    length (f (member_at b.members place)).readings ≡ blocks →
    ((k : ℕ) → reading_fine (f (member_at b.members place)).kind (get_or (f (member_at b.members place)).readings k None) ≡ true) →
    Sound (with_member b place f)
member_sound b place f s known long fine =
    let in_table : place < length b.members = omega (arith, s.places, s.few) in
    record {
      few = s.few;
      places = length-set b.members place (f (member_at b.members place)) ∙ s.places;
      long = λ m lt. changed_at b.members place f m (λ x. length x.readings ≡ blocks) in_table (λ _. long) (λ _. s.long m lt);
      fine = λ m k. changed_at b.members place f m (FineAt k) in_table (λ _. fine k) (λ _. s.fine m k);
      beyond = λ m k past. changed_at b.members place f m (NoneAt k) in_table (λ e. absurd (omega arith)) (λ _. s.beyond m k past);
      rows = s.rows;
      grid_rows = s.grid_rows;
      dated = s.dated;
      begun = s.begun;
      full = s.full;
      bounded = s.bounded;
      balanced = s.balanced;
      cash_least = s.cash_least;
    }

-- what an account owes and what the cash holds, at most
pub account_most : (b : Book) → Sound b → (k : ℕ) → k < record_count → nat_abs (sum_at b.accounts.table k) ≤ most_money * most_day
account_most b s k lt = let w = s.bounded k lt in omega (arith, s.dated)

pub cash_most : (b : Book) → Sound b → nat_abs b.cash.paise ≤ record_count * (most_money * most_day)
cash_most b s =
    let t : nat_abs (total b.accounts.table) ≤ length b.accounts.table * (most_money * most_day) =
    total_within (most_money * most_day) b.accounts.table (λ k h. account_most b s k (omega (arith, s.full))) in
    let u : nat_abs (total b.accounts.table) ≤ record_count * (most_money * most_day) = rw s.full at t in
    omega (arith, ints, s.balanced)

-- one account and the cash changed against each other
pub paid_sound : (b : Book) (place : ℕ) (more less : ℤ) → Sound b → place < record_count → more +ℤ less ≡ pos 0 →
    nat_abs (sum_at b.accounts.table place +ℤ more) ≤ nat_abs (sum_at b.accounts.table place) →
    pos 0 ≤ℤ (b.cash.paise +ℤ less) → Sound (paid b place more less)
paid_sound b place more less s known even nearer enough =
    let at : place < length b.accounts.table = omega (arith, s.full) in
    let t = total_added b.accounts.table place more at in
    record {
      few = s.few;
      places = s.places;
      long = s.long;
      fine = s.fine;
      beyond = s.beyond;
      rows = s.rows;
      grid_rows = s.grid_rows;
      dated = s.dated;
      begun = s.begun;
      full = length-set b.accounts.table place (owing (sum_at b.accounts.table place +ℤ more)) ∙ s.full;
      bounded = within_added (most_money * days_past b) record_count b.accounts.table place more at s.bounded (let w = s.bounded place known in omega arith);
      balanced = omega (arith, ints, s.balanced);
      cash_least = enough;
    }

pub closed_sound : (b : Book) (rs : List Record) → Sound b → b.opened ≡ true → Postable rs → Sound (closed_with b rs)
closed_sound b rs s open? e =
    let xs = b.accounts.table in
    let long : length rs ≡ length xs = e.seventeen ∙ sym s.full in
    let tot : total (posted xs rs) ≡ total xs +ℤ sum_of_lines rs = total_posted xs rs long in
    let begun : 1 ≤ b.day = subst (λ t. cond t 1 0 ≤ b.day) open? s.begun in
    record {
      few = s.few;
      places = s.places;
      long = s.long;
      fine = s.fine;
      beyond = s.beyond;
      rows = s.rows;
      grid_rows = s.grid_rows;
      dated = s.dated;
      begun = omega arith;
      full = length_posted xs rs ∙ s.full;
      bounded = λ k lt.
          let w : nat_abs (sum_at xs k) ≤ most_money * (b.day - 1) = subst (λ t. nat_abs (sum_at xs k) ≤ most_money * (b.day - cond t 1 0)) open? (s.bounded k lt) in
          let l : nat_abs (line_at rs k) ≤ most_money = e.within k lt in
          let p : sum_at (posted xs rs) k ≡ sum_at xs k +ℤ line_at rs k = sum_at_posted xs rs k (omega (arith, s.full)) in
          let q : nat_abs (sum_at xs k +ℤ line_at rs k) ≤ most_money * (b.day - 0) = omega (arith, ints) in
          subst (λ z. nat_abs z ≤ most_money * (b.day - 0)) (sym p) q;
      balanced = omega (arith, ints, s.balanced, e.even);
      cash_least = s.cash_least;
    }

-- a book whose accounts and cash were changed so is the one after that payment
pub paid_is : (b : Book) (xs : List Account) (cash : Paise) (place : ℕ) (more less : ℤ) →
    xs ≡ added b.accounts.table place more → cash.paise ≡ b.cash.paise +ℤ less → with_money b xs cash ≡ paid b place more less
paid_is b xs cash place more less table_is cash_is =
    ap (λ t. with_money b t cash) table_is ∙ ap (λ z. with_money b (added b.accounts.table place more) (money z)) cash_is
