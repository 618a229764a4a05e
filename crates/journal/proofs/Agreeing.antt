-- A pool that stands after a journal answers as the rules say from that journal. Assumes nothing.
use Rattle.std.proofs.Common.{◌≡◌, ℕ, ◌<◌, ◌≤◌, Bool, true, false, not, ◌&&◌, eqb, ltb, List, length, get_or, ℤ, pos, negsuc, neg_ℤ, nat_abs, None, Ok, sym, refl, ap, ◌∙◌, inl, inr, arith}
use lib.Signed.{lt_z}
use Rattle.std.proofs.lemmas.List.FromFn.{fill_by_all}
use Rattle.std.proofs.lemmas.List.{get_or-map, get_or-take, length-map, length-take-le}
use Rattle.std.proofs.lemmas.Bool.{ltb-true, eqb-true, or_cases, false≢true}
use Rattle.quantities.specs.Limits.{within, within_either, most_money}
use Rattle.facts.specs.Facts.{Facts}
use Rattle.facts.specs.Refusals.{reading_fits}
use Rattle.quantities.specs.Money.{money}
use Rattle.member_day.specs.Entries.{blocks}
use Rattle.sharing.specs.Shares.{too_much}
use Rattle.day.specs.Dues.{charges_of}
use Rattle.day.specs.Members.{most_members, member_at, nobody}
use Rattle.day.specs.Records.{record_count}
use Rattle.day.specs.declared.member.Member.{Member}
use Rattle.day.specs.declared.member.MemberKind.TheVariants.{Regional}
use Rattle.pool.specs.Calls.{kind_of_member}
use Rattle.pool.specs.Rules.{enrolled, has_account, reserve_account, unless, then_by, metered_at, regional_at, last_block, enrol_rule, open_rule, grid_rule, reading_rule, amount_rule, close_rule, drop_rule, pay_in_rule, pay_out_rule, account_rule}
use Rattle.pool.specs.Sound.{Sound}
use Rattle.pool.specs.Standing.{sum_at}
use Rattle.pool.specs.Tables.{all_entered, members_of}
use Rattle.pool.specs.declared.book.Book.{Book}
use Rattle.pool.specs.declared.refusal.Refusal.TheVariants.{WrongMoment, NotEnrolled, OutsideLimit, MoreThanDue, MoreThanCash}
use Rattle.journal.specs.Answers.{done, numbered, summed, answer_in}
use Rattle.journal.specs.Law.{Stands}
use Rattle.journal.specs.Steps.{outcome}
use Rattle.journal.specs.Words.{kinds_in, kind_named, open_in, grid_in, member_in, members_in, last_grid, last_reading, owed_by}
use Rattle.journal.specs.declared.answer.Reply.TheVariants.{Sum}
use Rattle.journal.specs.declared.call.Call.{Call}
use Rattle.journal.specs.declared.call.Call.TheVariants.{Enrol, Open, GridRow, Reading, Amount, Close, DropDay, PayIn, PayOut, Account, Cash}
use Rattle.journal.specs.declared.entry.Entry.{Entry}

-- what is asked only where a test holds may differ elsewhere
when_known : {X Y : Type 0} (t : Bool) (f : Bool → X → Y) (x y : X) → ((u v : X) → f false u ≡ f false v) → (t ≡ true → x ≡ y) → f t x ≡ f t y
when_known true f x y same e = ap (f true) (e refl)
when_known false f x y same e = same x y

pub enrolled_place : (count : ℕ) (z : ℤ) → enrolled count z ≡ true → nat_abs z < count
enrolled_place count (pos n) h = ltb-true n count h
enrolled_place count (negsuc n) h = absurd (false≢true h)

pub account_place : (count : ℕ) (z : ℤ) → count ≤ most_members → has_account count z ≡ true → nat_abs z < record_count
account_place count (pos n) few h = elim (or_cases (ltb n count) (eqb n reserve_account) h) [
  | inl l ↦ let k = ltb-true n count l in omega arith
  | inr r ↦ let k = eqb-true n reserve_account r in omega arith
]
account_place count (negsuc n) few h = absurd (false≢true h)

pub member_eq : (x y : Member) → x.kind ≡ y.kind → x.amount ≡ y.amount → x.readings ≡ y.readings → x ≡ y
member_eq x y k a r =
    ap (λ z. record { kind = z; amount = x.amount; readings = x.readings }) k
    ∙ (ap (λ z. record { kind = y.kind; amount = z; readings = x.readings }) a
    ∙ ap (λ z. record { kind = y.kind; amount = y.amount; readings = z }) r)

module _ (m : Facts → ℤ) (g : ℕ → List ℕ → List ℕ) (J : List Entry) (b : Book) (s : Sound b) (st : Stands m g J b) where
  pub count_is : b.count ≡ length (kinds_in J)
  count_is = sym (length-map (members_of b) (λ x. x.kind) ∙ length-take-le b.count b.members (omega (arith, s.few, s.places))) ∙ ap length st.kinds

  pub few_kinds : length (kinds_in J) ≤ most_members
  few_kinds = let n = count_is in omega (arith, s.few)

  in_table : (k : ℕ) → k < b.count → member_at (members_of b) k ≡ member_at b.members k
  in_table k lt = get_or-take b.count b.members k nobody lt

  long : length (members_of b) ≡ b.count
  long = length-take-le b.count b.members (omega (arith, s.few, s.places))

  kind_is : (k : ℕ) → k < b.count → (member_at b.members k).kind ≡ get_or (kinds_in J) k Regional
  kind_is k lt =
      let n = long in
      ap (λ x. x.kind) (sym (in_table k lt)) ∙ (sym (get_or-map (λ x. x.kind) (members_of b) k nobody Regional (omega arith)) ∙ ap (λ ks. get_or ks k Regional) st.kinds)

  kind_known : (member : ℤ) → enrolled b.count member ≡ true → kind_of_member b member ≡ kind_named J member
  kind_known member known = kind_is (nat_abs member) (enrolled_place b.count member known)

  sum_known : (account : ℤ) → has_account b.count account ≡ true → sum_at b.accounts.table (nat_abs account) ≡ owed_by J (nat_abs account)
  sum_known account known = st.accounts (nat_abs account) (account_place b.count account s.few known)

  -- the tables are those that the journal tells
  pub grid_is : b.grid ≡ grid_in J
  grid_is = fill_by_all (last_grid J) b.grid blocks None s.rows (λ k lt. st.grid_rows k lt)

  pub members_are : members_of b ≡ members_in J
  members_are =
      let n = count_is in
      fill_by_all (member_in J) (members_of b) (length (kinds_in J)) nobody (long ∙ n)
      (λ k lt.
      let here : k < b.count = omega arith in
      let few : k < most_members = omega (arith, s.few) in
      in_table k here ∙ member_eq (member_at b.members k) (member_in J k) (kind_is k here) (st.amounts k few)
      (fill_by_all (last_reading J k) (member_at b.members k).readings blocks None (s.long k few) (λ i li. st.readings k i few li)))

  pub agrees : (c : Call) → (outcome m g b c).answer ≡ answer_in m J c
  agrees (Enrol kind) =
      ap (λ o. numbered (enrol_rule o b.count kind)) st.opened ∙ ap (λ n. numbered (enrol_rule (open_in J) n kind)) count_is
  agrees (Open day) = ap (λ o. done (open_rule o b.day day)) st.opened ∙ ap (λ d. done (open_rule (open_in J) d day)) st.day
  agrees (GridRow block hz100 price) = ap (λ o. done (grid_rule o block hz100 price)) st.opened
  agrees (Reading member block scheduled metered available) =
      when_known (enrolled b.count member)
      (λ t k. done (unless (not b.opened) WrongMoment (then_by (unless (not t) NotEnrolled (metered_at (nat_abs member) k)) (λ found. unless (not (within 0 last_block block && reading_fits found.1 scheduled metered available)) OutsideLimit (Ok tt)))))
      (kind_of_member b member) (kind_named J member) (λ u v. refl) (kind_known member)
      ∙ (ap (λ o. done (reading_rule o b.count (kind_named J member) member block scheduled metered available)) st.opened
      ∙ ap (λ n. done (reading_rule (open_in J) n (kind_named J member) member block scheduled metered available)) count_is)
  agrees (Amount member paise) =
      when_known (enrolled b.count member)
      (λ t k. done (unless (not b.opened) WrongMoment (then_by (unless (not t) NotEnrolled (regional_at (nat_abs member) k)) (λ _. unless (not (within_either most_money paise)) OutsideLimit (Ok tt)))))
      (kind_of_member b member) (kind_named J member) (λ u v. refl) (kind_known member)
      ∙ (ap (λ o. done (amount_rule o b.count (kind_named J member) member paise)) st.opened
      ∙ ap (λ n. done (amount_rule (open_in J) n (kind_named J member) member paise)) count_is)
  agrees (Close room) =
      ap (λ o. done (close_rule o (all_entered b.grid (members_of b)) room (too_much (charges_of m b.grid (members_of b))))) st.opened
      ∙ (ap (λ gs. done (close_rule (open_in J) (all_entered gs (members_of b)) room (too_much (charges_of m gs (members_of b))))) grid_is
      ∙ ap (λ ms. done (close_rule (open_in J) (all_entered (grid_in J) ms) room (too_much (charges_of m (grid_in J) ms)))) members_are)
  agrees DropDay = ap (λ o. done (drop_rule o)) st.opened
  agrees (PayIn account paise) =
      when_known (has_account b.count account)
      (λ t z. done (unless (not t) NotEnrolled (unless (not (within 1 most_money paise)) OutsideLimit (unless (lt_z z paise) MoreThanDue (Ok tt)))))
      (sum_at b.accounts.table (nat_abs account)) (owed_by J (nat_abs account)) (λ u v. refl) (sum_known account)
      ∙ ap (λ n. done (pay_in_rule n account paise (owed_by J (nat_abs account)))) count_is
  agrees (PayOut account paise) =
      when_known (has_account b.count account)
      (λ t z. done (unless (not t) NotEnrolled (unless (not (within 1 most_money paise)) OutsideLimit (unless (lt_z (neg_ℤ z) paise) MoreThanDue (unless (lt_z b.cash.paise paise) MoreThanCash (Ok tt))))))
      (sum_at b.accounts.table (nat_abs account)) (owed_by J (nat_abs account)) (λ u v. refl) (sum_known account)
      ∙ (ap (λ n. done (pay_out_rule n account paise (owed_by J (nat_abs account)) b.cash.paise)) count_is
      ∙ ap (λ z. done (pay_out_rule (length (kinds_in J)) account paise (owed_by J (nat_abs account)) z)) st.cash)
  agrees (Account account) =
      when_known (has_account b.count account)
      (λ t z. summed (unless (not t) NotEnrolled (Ok (money z))))
      (sum_at b.accounts.table (nat_abs account)) (owed_by J (nat_abs account)) (λ u v. refl) (sum_known account)
      ∙ ap (λ n. summed (account_rule n account (owed_by J (nat_abs account)))) count_is
  agrees Cash = ap (λ z. Ok (Sum (money z))) st.cash
