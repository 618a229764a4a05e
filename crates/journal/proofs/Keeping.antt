-- One call more: a pool that stands after a journal stands after the call and that journal. Assumes nothing.
use Rattle.std.proofs.Common.{◌≡◌, ℕ, ◌<◌, Bool, true, false, cond, not, ◌&&◌, eqb, leb, List, [], ◌∷◌, ◌++◌, map, length, get_or, drop, ℤ, pos, negsuc, ◌+ℤ◌, ◌-ℤ◌, neg_ℤ, nat_abs, is_some, is_ok, Some, None, Ok, Err, Result, sym, refl, ap, ◌∙◌, subst, arith}
use mathlib.Core.List.{reverse-cons}
use Rattle.std.proofs.lemmas.List.{take_more_set, map_push, get_or-replicate, append-nil}
use Rattle.std.specs.Result.{result_map_both}
use Rattle.std.proofs.lemmas.Int.{ints}
use Rattle.std.proofs.lemmas.Bool.{leb-true, leb-false, not-false, and_parts, false≢true}
use Rattle.quantities.specs.Limits.{within, within_either, most_money}
use Rattle.quantities.specs.declared.paise.Paise.{Paise}
use Rattle.facts.specs.Facts.{Facts}
use Rattle.facts.specs.Refusals.{grid_fits, reading_fits}
use Rattle.quantities.specs.Money.{money}
use Rattle.member_day.specs.Entries.{blocks}
use Rattle.day.specs.Members.{most_members, member_at, nobody, member_kind_of}
use Rattle.day.specs.Records.{day_records, record_count}
use Rattle.day.specs.declared.record.Record.{Record}
use Rattle.pool.specs.Calls.{enrolling, enrolled_as, kind_numbered, opening, opened_on, entering_grid, with_grid, entering_reading, read_by, entering_amount, amount_by, closing_of, closed_with, records_of, dropping, ended, paying_in, paid_in, paying_out, paid_out, asking, kind_of_member}
use Rattle.pool.specs.Rules.{enrolled, has_account, last_block, metered_member, regional_member, then_by, unless}
use Rattle.pool.specs.Sound.{Sound}
use Rattle.pool.specs.Standing.{sum_at, owing}
use Rattle.pool.specs.Tables.{kinds_of, members_of, fresh, no_entries, of_kind, with_reading, with_amount, reading_entry, grid_entry, vacant}
use Rattle.pool.specs.declared.book.Book.{Book}
use Rattle.pool.specs.declared.refusal.Refusal.{Refusal}
use Rattle.pool.specs.declared.refusal.Refusal.TheVariants.{OutsideLimit}
use Rattle.pool.proofs.Accepted.{passed}
use Rattle.pool.proofs.Members.{cleared_at}
use Rattle.pool.proofs.Totals.{sum_at_added, sum_at_posted}
use Rattle.journal.specs.Answers.{done, summed, answer_in}
use Rattle.journal.specs.Law.{Stands, no_records}
use Rattle.journal.specs.Steps.{outcome}
use Rattle.journal.specs.Words.{all_of, closed_day, closed_in, lines_of, paid_of, kinds_in, open_in, last_day, last_grid, last_reading, last_amount, grid_in, members_in, owed_by, cash_in}
use Rattle.journal.specs.declared.answer.Reply.{Reply}
use Rattle.journal.specs.declared.answer.Reply.TheVariants.{Done, Enrolled, Sum}
use Rattle.journal.specs.declared.call.Call.{Call}
use Rattle.journal.specs.declared.call.Call.TheVariants.{Enrol, Open, GridRow, Reading, Amount, Close, DropDay, PayIn, PayOut, Account, Cash}
use Rattle.journal.specs.declared.entry.Entry.{Entry}
use Rattle.journal.proofs.Agreeing.{agrees, few_kinds, grid_is, members_are, enrolled_place, account_place}
use Rattle.journal.proofs.Tables.{kinds_cleared, kinds_kept, kept_at, one_place, one_reading, one_amount, or_last}

-- what is noted of a call
abbrev pub noted : Call → Result Reply Refusal → List Record → Book → Entry
noted c a rs b = record { call = c; answer = a; records = rs; accounts = b.accounts; cash = b.cash }

in_or_not : (t : Bool) (p x l i o : ℤ) → x ≡ (l -ℤ i) +ℤ o → cond t (x +ℤ neg_ℤ p) x ≡ (l -ℤ (cond t p (pos 0) +ℤ i)) +ℤ o
in_or_not true p x l i o e = omega (arith, ints)
in_or_not false p x l i o e = omega (arith, ints)

out_or_not : (t : Bool) (p x l i o : ℤ) → x ≡ (l -ℤ i) +ℤ o → cond t (x +ℤ p) x ≡ (l -ℤ i) +ℤ (cond t p (pos 0) +ℤ o)
out_or_not true p x l i o e = omega (arith, ints)
out_or_not false p x l i o e = omega (arith, ints)

none_at : {X : Type 0} (k : ℕ) → k < blocks → get_or (no_entries {X = X}) k None ≡ None
none_at k lt = get_or-replicate blocks k None None lt

-- a call that was accepted after something was found
found_by : {X : Type 0} (r : Result X Refusal) (next : X → Result (Unit {0}) Refusal) → then_by r next ≡ Ok tt → (x : X) × (r ≡ Ok x) × (next x ≡ Ok tt)
found_by (Ok x) next e = (x, refl, e)
found_by (Err r) next e = let z : ◌≡◌ {A = ℕ} 0 1 = cc in absurd (omega arith)

within_block : (z : ℤ) → within 0 last_block z ≡ true → nat_abs z < blocks
within_block (pos n) h = let k = leb-true n last_block (and_parts (leb 0 n) (leb n last_block) h).1 in omega arith
within_block (negsuc n) h = absurd (false≢true h)

-- the ways that a query and a close end
by_asks : (r : Result Paise Refusal) (P : Result Reply Refusal → Type 0) → ((p : Paise) → P (Ok (Sum p))) → ((x : Refusal) → P (Err x)) → P (summed r)
by_asks (Ok p) P yes' no' = yes' p
by_asks (Err x) P yes' no' = no' x

by_fills : (r : Result (Unit {0}) Refusal) (filled : List Record) (changed b : Book) (P : Result Reply Refusal → Book → List Record → Type 0) → (r ≡ Ok tt → P (Ok Done) changed filled) → ((x : Refusal) → P (Err x) b no_records) →
    P (done r) (cond (is_ok r) changed b) (cond (is_ok r) (filled ++ drop record_count no_records) no_records)
by_fills (Ok u) filled changed b P yes' no' = subst (P (Ok Done) changed) (sym (append-nil filled)) (yes' refl)
by_fills (Err x) filled changed b P yes' no' = no' x

module _ (m : Facts → ℤ) (g : ℕ → List ℕ → List ℕ) where
  -- an entry more, by all that has to hold of the book after it
  more : (c : Call) (a : Result Reply Refusal) (rs : List Record) (J : List Entry) (b w : Book) → Sound b → Sound w → Stands m g J b →
      a ≡ answer_in m J c →
      rs ≡ cond (closed_day (noted c a rs w)) (day_records m g (grid_in J) (members_in J)) no_records →
      ((k : ℕ) → k < record_count → sum_at w.accounts.table k ≡ owed_by (noted c a rs w ∷ J) k) →
      w.cash.paise ≡ cash_in (noted c a rs w ∷ J) →
      kinds_of w ≡ kinds_in (noted c a rs w ∷ J) →
      w.opened ≡ open_in (noted c a rs w ∷ J) →
      w.day ≡ last_day (noted c a rs w ∷ J) →
      ((k : ℕ) → k < blocks → get_or w.grid k None ≡ last_grid (noted c a rs w ∷ J) k) →
      ((k i : ℕ) → k < most_members → i < blocks → get_or (member_at w.members k).readings i None ≡ last_reading (noted c a rs w ∷ J) k i) →
      ((k : ℕ) → k < most_members → (member_at w.members k).amount ≡ last_amount (noted c a rs w ∷ J) k) →
      Stands m g (noted c a rs w ∷ J) w
  more c a rs J b w s t st tells records accounts cash kinds opened day grid_rows readings amounts = record {
    each = (record { answer = tells; records = records; full = t.full; accounts = accounts; cash = cash; zero = t.balanced; few = few_kinds m g J b s st }, st.each);
    accounts = accounts;
    cash = cash;
    kinds = kinds;
    opened = opened;
    day = day;
    grid_rows = grid_rows;
    readings = readings;
    amounts = amounts;
  }

  -- a refused call, and a query, leave all as it was
  refused_stands : (c : Call) (r : Refusal) (J : List Entry) (b : Book) → Sound b → Stands m g J b → Err r ≡ answer_in m J c → Stands m g (noted c (Err r) no_records b ∷ J) b
  refused_stands c r J b s st tells = more c (Err r) no_records J b b s s st tells refl st.accounts st.cash st.kinds st.opened st.day st.grid_rows st.readings st.amounts

  account_stands : (account : ℤ) (p : Paise) (J : List Entry) (b : Book) → Sound b → Stands m g J b → Ok (Sum p) ≡ answer_in m J (Account account) → Stands m g (noted (Account account) (Ok (Sum p)) no_records b ∷ J) b
  account_stands account p J b s st tells = more (Account account) (Ok (Sum p)) no_records J b b s s st tells refl st.accounts st.cash st.kinds st.opened st.day st.grid_rows st.readings st.amounts

  cash_stands : (p : Paise) (J : List Entry) (b : Book) → Sound b → Stands m g J b → Ok (Sum p) ≡ answer_in m J Cash → Stands m g (noted Cash (Ok (Sum p)) no_records b ∷ J) b
  cash_stands p J b s st tells = more Cash (Ok (Sum p)) no_records J b b s s st tells refl st.accounts st.cash st.kinds st.opened st.day st.grid_rows st.readings st.amounts

  enrol_stands : (kind : ℤ) (n : ℕ) (J : List Entry) (b : Book) → Sound b → Sound (enrolled_as b kind) → Stands m g J b → enrolling b kind ≡ Ok n → Ok (Enrolled n) ≡ answer_in m J (Enrol kind) →
      Stands m g (noted (Enrol kind) (Ok (Enrolled n)) no_records (enrolled_as b kind) ∷ J) (enrolled_as b kind)
  enrol_stands kind n J b s t st ok tells =
      let room = (passed (leb most_members b.count) _ _ _ (passed (not (is_some (member_kind_of kind))) _ _ _ (passed b.opened _ _ _ ok).1).1).0 in
      let lt : b.count < length b.members = omega (arith, leb-false most_members b.count room, s.places) in
      let f = of_kind (kind_numbered kind) in
      let x = f (member_at b.members b.count) in
      more (Enrol kind) (Ok (Enrolled n)) no_records J b (enrolled_as b kind) s t st tells refl st.accounts st.cash
      (ap (map (λ y. y.kind)) (take_more_set b.members b.count x lt) ∙ (map_push (λ y. y.kind) (members_of b) x ∙ (ap (λ l. l ++ (kind_numbered kind ∷ [])) st.kinds ∙ sym (reverse-cons (kind_numbered kind) (all_of (λ d. d.enrols) J)))))
      st.opened st.day st.grid_rows
      (λ k i lk li. kept_at b.members b.count f (λ y. get_or y.readings i None) k lt (λ _. refl) ∙ st.readings k i lk li)
      (λ k lk. kept_at b.members b.count f (λ y. y.amount) k lt (λ _. refl) ∙ st.amounts k lk)

  open_stands : (day : ℤ) (J : List Entry) (b : Book) → Sound b → Sound (opened_on b day) → Stands m g J b → Ok Done ≡ answer_in m J (Open day) →
      Stands m g (noted (Open day) (Ok Done) no_records (opened_on b day) ∷ J) (opened_on b day)
  open_stands day J b s t st tells =
      more (Open day) (Ok Done) no_records J b (opened_on b day) s t st tells refl st.accounts st.cash
      (kinds_cleared b.count b.members ∙ st.kinds) refl refl
      (λ k lk. none_at k lk)
      (λ k i lk li. ap (λ y. get_or y.readings i None) (cleared_at b.members k (omega (arith, s.places))) ∙ none_at i li)
      (λ k lk. ap (λ y. y.amount) (cleared_at b.members k (omega (arith, s.places))))

  drop_stands : (J : List Entry) (b : Book) → Sound b → Sound (ended b) → Stands m g J b → Ok Done ≡ answer_in m J DropDay → Stands m g (noted DropDay (Ok Done) no_records (ended b) ∷ J) (ended b)
  drop_stands J b s t st tells = more DropDay (Ok Done) no_records J b (ended b) s t st tells refl st.accounts st.cash st.kinds refl st.day st.grid_rows st.readings st.amounts

  grid_stands : (block hz100 price : ℤ) (J : List Entry) (b : Book) → Sound b → Sound (with_grid b block hz100 price) → Stands m g J b → entering_grid b block hz100 price ≡ Ok tt → Ok Done ≡ answer_in m J (GridRow block hz100 price) →
      Stands m g (noted (GridRow block hz100 price) (Ok Done) no_records (with_grid b block hz100 price) ∷ J) (with_grid b block hz100 price)
  grid_stands block hz100 price J b s t st ok tells =
      let fits = (passed (not (within 0 last_block block && grid_fits hz100 price)) _ _ _ (passed (not b.opened) _ _ _ ok).1).0 in
      let lt = within_block block (and_parts _ _ (not-false _ fits)).0 in
      let row = grid_entry hz100 price in
      more (GridRow block hz100 price) (Ok Done) no_records J b (with_grid b block hz100 price) s t st tells refl st.accounts st.cash st.kinds st.opened st.day
      (λ k lk. one_place b.grid (nat_abs block) row k (omega (arith, s.rows)) ∙ (ap (cond (eqb k (nat_abs block)) (Some row)) (st.grid_rows k lk) ∙ or_last (eqb k (nat_abs block)) row (last_grid J k)))
      st.readings st.amounts

  reading_stands : (member block scheduled metered available : ℤ) (J : List Entry) (b : Book) → Sound b → Sound (read_by b member block scheduled metered available) → Stands m g J b → nat_abs member < b.count → nat_abs block < blocks →
      Ok Done ≡ answer_in m J (Reading member block scheduled metered available) →
      Stands m g (noted (Reading member block scheduled metered available) (Ok Done) no_records (read_by b member block scheduled metered available) ∷ J) (read_by b member block scheduled metered available)
  reading_stands member block scheduled metered available J b s t st lm lb tells =
      let row = reading_entry scheduled metered available in
      let k' = nat_abs member in
      let in_table : nat_abs member < length b.members = omega (arith, s.few, s.places) in
      let long = s.long k' (omega (arith, s.few)) in
      more (Reading member block scheduled metered available) (Ok Done) no_records J b (read_by b member block scheduled metered available) s t st tells refl st.accounts st.cash
      (kinds_kept b.count b.members k' (with_reading (nat_abs block) row (member_at b.members k')) refl ∙ st.kinds)
      st.opened st.day st.grid_rows
      (λ k i lk li. one_reading b.members k' (nat_abs block) row k i in_table (omega arith)
      ∙ (ap (cond (eqb k k' && eqb i (nat_abs block)) (Some row)) (st.readings k i lk li) ∙ or_last (eqb k k' && eqb i (nat_abs block)) row (last_reading J k i)))
      (λ k lk. kept_at b.members k' (with_reading (nat_abs block) row) (λ y. y.amount) k in_table (λ _. refl) ∙ st.amounts k lk)

  amount_stands : (member paise : ℤ) (J : List Entry) (b : Book) → Sound b → Sound (amount_by b member paise) → Stands m g J b → nat_abs member < b.count → Ok Done ≡ answer_in m J (Amount member paise) →
      Stands m g (noted (Amount member paise) (Ok Done) no_records (amount_by b member paise) ∷ J) (amount_by b member paise)
  amount_stands member paise J b s t st lm tells =
      let k' = nat_abs member in
      let in_table : nat_abs member < length b.members = omega (arith, s.few, s.places) in
      more (Amount member paise) (Ok Done) no_records J b (amount_by b member paise) s t st tells refl st.accounts st.cash
      (kinds_kept b.count b.members k' (with_amount (money paise) (member_at b.members k')) refl ∙ st.kinds)
      st.opened st.day st.grid_rows
      (λ k i lk li. kept_at b.members k' (with_amount (money paise)) (λ y. get_or y.readings i None) k in_table (λ _. refl) ∙ st.readings k i lk li)
      (λ k lk. one_amount b.members k' (money paise) k in_table ∙ (ap (cond (eqb k k') (Some (money paise))) (st.amounts k lk) ∙ or_last (eqb k k') (money paise) (last_amount J k)))

  pay_in_stands : (account paise : ℤ) (J : List Entry) (b : Book) → Sound b → Sound (paid_in b account paise) → Stands m g J b → paying_in b account paise ≡ Ok tt → Ok Done ≡ answer_in m J (PayIn account paise) →
      Stands m g (noted (PayIn account paise) (Ok Done) no_records (paid_in b account paise) ∷ J) (paid_in b account paise)
  pay_in_stands account paise J b s t st ok tells =
      let known = account_place b.count account s.few (not-false _ (passed (not (has_account b.count account)) _ _ _ ok).0) in
      more (PayIn account paise) (Ok Done) no_records J b (paid_in b account paise) s t st tells refl
      (λ k lk. sum_at_added b.accounts.table (nat_abs account) k (neg_ℤ paise) (omega (arith, s.full))
      ∙ in_or_not (eqb k (nat_abs account)) paise (sum_at b.accounts.table k) (lines_of k (closed_in J)) (paid_of k (all_of (λ d. d.pays_in) J)) (paid_of k (all_of (λ d. d.pays_out) J)) (st.accounts k lk))
      (let e = st.cash in omega (arith, ints))
      st.kinds st.opened st.day st.grid_rows st.readings st.amounts

  pay_out_stands : (account paise : ℤ) (J : List Entry) (b : Book) → Sound b → Sound (paid_out b account paise) → Stands m g J b → paying_out b account paise ≡ Ok tt → Ok Done ≡ answer_in m J (PayOut account paise) →
      Stands m g (noted (PayOut account paise) (Ok Done) no_records (paid_out b account paise) ∷ J) (paid_out b account paise)
  pay_out_stands account paise J b s t st ok tells =
      let known = account_place b.count account s.few (not-false _ (passed (not (has_account b.count account)) _ _ _ ok).0) in
      more (PayOut account paise) (Ok Done) no_records J b (paid_out b account paise) s t st tells refl
      (λ k lk. sum_at_added b.accounts.table (nat_abs account) k paise (omega (arith, s.full))
      ∙ out_or_not (eqb k (nat_abs account)) paise (sum_at b.accounts.table k) (lines_of k (closed_in J)) (paid_of k (all_of (λ d. d.pays_in) J)) (paid_of k (all_of (λ d. d.pays_out) J)) (st.accounts k lk))
      (let e = st.cash in omega (arith, ints))
      st.kinds st.opened st.day st.grid_rows st.readings st.amounts

  close_stands : (room : ℕ) (J : List Entry) (b : Book) → Sound b → Sound (closed_with b (records_of m g b)) → Stands m g J b → Ok Done ≡ answer_in m J (Close room) →
      Stands m g (noted (Close room) (Ok Done) (records_of m g b) (closed_with b (records_of m g b)) ∷ J) (closed_with b (records_of m g b))
  close_stands room J b s t st tells =
      let rs = records_of m g b in
      more (Close room) (Ok Done) rs J b (closed_with b rs) s t st tells
      (ap (λ gs. day_records m g gs (members_of b)) (grid_is m g J b s st) ∙ ap (day_records m g (grid_in J)) (members_are m g J b s st))
      (λ k lk. let o = st.accounts k lk in let p = sum_at_posted b.accounts.table rs k (omega (arith, s.full)) in omega (arith, ints))
      st.cash st.kinds refl st.day st.grid_rows st.readings st.amounts

  -- with this answer and this book a pool that stood after J stands after the call and J
  abbrev Keeps : Call → List Entry → Result Reply Refusal → Book → Type 0
  Keeps c J a w = Sound w → a ≡ answer_in m J c → Stands m g (noted c a no_records w ∷ J) w

  -- a call ends accepted with the book changed, or refused with the book as it was
  by_call : {X : Type 0} (f : X → Reply) (c : Call) (J : List Entry) (b changed : Book) (r : Result X Refusal) → Sound b → Stands m g J b →
      ((x : X) → r ≡ Ok x → Keeps c J (Ok (f x)) changed) → Keeps c J (result_map_both f (λ refusal. refusal) r) (cond (is_ok r) changed b)
  by_call f c J b changed (Ok x) s st yes' = yes' x refl
  by_call f c J b changed (Err e) s st yes' = λ _. refused_stands c e J b s st

  -- one call, whichever it is
  outcome_stands : (c : Call) (J : List Entry) (b : Book) → Sound b → Sound (outcome m g b c).book → Stands m g J b → (outcome m g b c).answer ≡ answer_in m J c →
      Stands m g (noted c (outcome m g b c).answer ((outcome m g b c).records no_records) (outcome m g b c).book ∷ J) (outcome m g b c).book
  outcome_stands (Enrol kind) J b s t st tells =
      by_call Enrolled (Enrol kind) J b (enrolled_as b kind) (enrolling b kind) s st (λ n ok t'. enrol_stands kind n J b s t' st ok) t tells
  outcome_stands (Open day) J b s t st tells =
      by_call (λ _. Done) (Open day) J b (opened_on b day) (opening b day) s st (λ _ ok t'. open_stands day J b s t' st) t tells
  outcome_stands (GridRow block hz100 price) J b s t st tells =
      by_call (λ _. Done) (GridRow block hz100 price) J b (with_grid b block hz100 price) (entering_grid b block hz100 price) s st
      (λ _ ok t'. grid_stands block hz100 price J b s t' st ok) t tells
  outcome_stands (Reading member block scheduled metered available) J b s t st tells =
      by_call (λ _. Done) (Reading member block scheduled metered available) J b (read_by b member block scheduled metered available) (entering_reading b member block scheduled metered available) s st
      (λ _ ok t'.
      let f = found_by (metered_member b.count (kind_of_member b member) member) (λ found. unless (not (within 0 last_block block && reading_fits found.1 scheduled metered available)) OutsideLimit (Ok tt)) (passed (not b.opened) _ _ _ ok).1 in
      let lm = enrolled_place b.count member (not-false _ (passed (not (enrolled b.count member)) _ _ _ f.1).0) in
      let lb = within_block block (and_parts _ _ (not-false _ (passed (not (within 0 last_block block && reading_fits f.0.1 scheduled metered available)) _ _ _ f.2).0)).0 in
      reading_stands member block scheduled metered available J b s t' st lm lb) t tells
  outcome_stands (Amount member paise) J b s t st tells =
      by_call (λ _. Done) (Amount member paise) J b (amount_by b member paise) (entering_amount b member paise) s st
      (λ _ ok t'.
      let f = found_by (regional_member b.count (kind_of_member b member) member) (λ _. unless (not (within_either most_money paise)) OutsideLimit (Ok tt)) (passed (not b.opened) _ _ _ ok).1 in
      let lm = enrolled_place b.count member (not-false _ (passed (not (enrolled b.count member)) _ _ _ f.1).0) in
      amount_stands member paise J b s t' st lm) t tells
  outcome_stands (Close room) J b s t st tells =
      by_fills (closing_of m b room) (records_of m g b) (closed_with b (records_of m g b)) b (λ a w rs. Sound w → a ≡ answer_in m J (Close room) → Stands m g (noted (Close room) a rs w ∷ J) w)
      (λ ok t'. close_stands room J b s t' st) (λ x _. refused_stands (Close room) x J b s st) t tells
  outcome_stands DropDay J b s t st tells =
      by_call (λ _. Done) DropDay J b (ended b) (dropping b) s st (λ _ ok t'. drop_stands J b s t' st) t tells
  outcome_stands (PayIn account paise) J b s t st tells =
      by_call (λ _. Done) (PayIn account paise) J b (paid_in b account paise) (paying_in b account paise) s st (λ _ ok t'. pay_in_stands account paise J b s t' st ok) t tells
  outcome_stands (PayOut account paise) J b s t st tells =
      by_call (λ _. Done) (PayOut account paise) J b (paid_out b account paise) (paying_out b account paise) s st (λ _ ok t'. pay_out_stands account paise J b s t' st ok) t tells
  outcome_stands (Account account) J b s t st tells =
      by_asks (asking b account) (λ a. Keeps (Account account) J a b) (λ p _. account_stands account p J b s st) (λ x _. refused_stands (Account account) x J b s st) t tells
  outcome_stands Cash J b s t st tells = cash_stands b.cash J b s st tells

  -- one call as it was performed
  pub step_stands : (c : Call) (a : Result Reply Refusal) (rs : List Record) (J : List Entry) (b w : Book) → Sound b → Sound w → Stands m g J b →
      a ≡ (outcome m g b c).answer → w ≡ (outcome m g b c).book → rs ≡ (outcome m g b c).records no_records → Stands m g (noted c a rs w ∷ J) w
  step_stands c a rs J b w s t st ea ew er =
      subst (λ x. Stands m g (noted c x rs w ∷ J) w) (sym ea)
      (subst (λ x. Stands m g (noted c (outcome m g b c).answer x w ∷ J) w) (sym er)
      (subst (λ x. Stands m g (noted c (outcome m g b c).answer ((outcome m g b c).records no_records) x ∷ J) x) (sym ew)
      (outcome_stands c J b s (subst Sound ew t) st (agrees m g J b s st c))))

  -- a new pool stands after no call
  pub none_stands : Stands m g [] fresh
  none_stands = record {
    each = tt;
    accounts = λ k lt. ap (λ a. a.sum.paise) (get_or-replicate record_count k (owing (pos 0)) (owing (pos 0)) lt);
    cash = refl;
    kinds = refl;
    opened = refl;
    day = refl;
    grid_rows = λ k lt. none_at k lt;
    readings = λ k i lk li. ap (λ x. get_or x.readings i None) (get_or-replicate most_members k vacant nobody lk) ∙ none_at i li;
    amounts = λ k lk. ap (λ x. x.amount) (get_or-replicate most_members k vacant nobody lk);
  }
