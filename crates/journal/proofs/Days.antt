-- What each entry of a journal tells makes closed days fair, and alike days equal. Assumes nothing.
use Rattle.std.proofs.Common.{◌≡◌, ℕ, ◌<◌, ◌≤◌, Bool, true, false, ltb, List, [], ◌∷◌, ◌++◌, map, length, get_or, ℤ, pos, None, Err, sym, refl, ap, ◌∙◌, subst, arith}
use Rattle.std.specs.List.{range_with_len}
use Rattle.std.proofs.lemmas.List.FromFn.{fill_by_all, length-map-range_with_len, get_or-map-range_with_len}
use Rattle.std.proofs.lemmas.Bool.{and_parts, false≢true, cond-true}
use Rattle.facts.specs.Facts.{Facts, Within}
use Rattle.member_day.specs.Entries.{blocks}
use Rattle.parting.specs.Rule.{Asked, Parted}
use Rattle.sharing.specs.Shares.{too_much}
use Rattle.day.specs.Alike.{AlikeTariffs, AlikeRules}
use Rattle.day.specs.Dues.{charges_of}
use Rattle.day.specs.Laws.{Settled}
use Rattle.day.specs.Members.{most_members, nobody}
use Rattle.day.specs.Records.{day_records, record_count}
use Rattle.day.specs.declared.member.MemberKind.TheVariants.{Regional}
use Rattle.day.proofs.AlikeDays.{alike_records}
use Rattle.day.proofs.SettledDay.{settled_within}
use Rattle.pool.specs.Rules.{close_rule, unless}
use Rattle.pool.specs.Tables.{all_entered}
use Rattle.pool.specs.declared.refusal.Refusal.TheVariants.{TooFewRecords, SideTooLarge}
use Rattle.journal.specs.Answers.{done, answer_in}
use Rattle.journal.specs.Deeds.{deed}
use Rattle.journal.specs.Law.{Told, Each, ClosedIn, Alike, Same, FairDays, Lawful, no_records}
use Rattle.journal.specs.Words.{accepted, closed_by, closed_day, kinds_in, open_in, grid_in, member_in, members_in, last_grid, last_reading}
use Rattle.journal.specs.declared.call.Call.{Call}
use Rattle.journal.specs.declared.call.Call.TheVariants.{Enrol, Open, GridRow, Reading, Amount, Close, DropDay, PayIn, PayOut, Account, Cash}
use Rattle.journal.specs.declared.entry.Entry.{Entry}
use Rattle.journal.proofs.Agreeing.{member_eq}

-- a day that the rule lets close has sides within their limit
short_or_over : {X : Type 0} (short : Bool) → accepted (done (unless short TooFewRecords (Err SideTooLarge))) ≡ true → X
short_or_over true h = absurd (false≢true h)
short_or_over false h = absurd (false≢true h)

rule_within : (opened given over : Bool) (room : ℕ) → accepted (done (close_rule opened given room over)) ≡ true → over ≡ false
rule_within opened given false room h = refl
rule_within false given true room h = absurd (false≢true h)
rule_within true false true room h = absurd (false≢true h)
rule_within true true true room h = short_or_over (ltb room record_count) h

-- only a close closes a day
close_call : (c : Call) → closed_by (deed c).marks ≡ true → (room : ℕ) × (c ≡ Close room)
close_call (Enrol kind) h = absurd (false≢true h)
close_call (Open day) h = absurd (false≢true h)
close_call (GridRow block hz100 price) h = absurd (false≢true h)
close_call (Reading member block scheduled metered available) h = absurd (false≢true h)
close_call (Amount member paise) h = absurd (false≢true h)
close_call (Close room) h = (room, refl)
close_call DropDay h = absurd (false≢true h)
close_call (PayIn account paise) h = absurd (false≢true h)
close_call (PayOut account paise) h = absurd (false≢true h)
close_call (Account account) h = absurd (false≢true h)
close_call Cash h = absurd (false≢true h)

-- lists made place by place that agree at each place
same_map : {X : Type 0} (f f' : ℕ → X) (n : ℕ) (d : X) → ((k : ℕ) → k < n → f k ≡ f' k) → map f (range_with_len 0 n) ≡ map f' (range_with_len 0 n)
same_map f f' n d same = fill_by_all f' (map f (range_with_len 0 n)) n d (length-map-range_with_len f 0 n) (λ k lt. get_or-map-range_with_len f 0 n k k d lt (omega arith) ∙ same k lt)

alike_grid : (J J' : List Entry) → Alike J J' → grid_in J ≡ grid_in J'
alike_grid J J' a = same_map (last_grid J) (last_grid J') blocks None a.grid_rows

alike_members : (J J' : List Entry) → Alike J J' → members_in J ≡ members_in J'
alike_members J J' a =
    same_map (member_in J) (member_in J') (length (kinds_in J)) nobody
    (λ k lt. member_eq (member_in J k) (member_in J' k) (ap (λ ks. get_or ks k Regional) a.members) (a.amounts k lt)
    (same_map (last_reading J k) (last_reading J' k) blocks None (λ i li. a.readings k i lt li)))
    ∙ ap (λ n. map (member_in J') (range_with_len 0 n)) (ap length a.members)

module _ (m : Facts → ℤ) (g : ℕ → List ℕ → List ℕ) where
  told_at : (later : List Entry) (e : Entry) (before : List Entry) → Each m g (later ++ (e ∷ before)) → Told m g e before
  told_at [] e before h = h.0
  told_at (x ∷ later) e before h = told_at later e before h.1

  told_of : (J : List Entry) (e : Entry) (before : List Entry) → Each m g J → ClosedIn J e before → Told m g e before
  told_of J e before h d = told_at d.later e before (subst (Each m g) d.place h)

  -- the records of a closed day are those of its entries
  records_are : (e : Entry) (before : List Entry) → Told m g e before → closed_day e ≡ true → e.records ≡ day_records m g (grid_in before) (members_in before)
  records_are e before t closed = t.records ∙ cond-true (closed_day e) (day_records m g (grid_in before) (members_in before)) no_records closed

  within_sides : (e : Entry) (before : List Entry) → Told m g e before → closed_day e ≡ true → too_much (charges_of m (grid_in before) (members_in before)) ≡ false
  within_sides e before t closed =
      let parts = and_parts (accepted e.answer) (closed_by (deed e.call).marks) closed in
      let c = close_call e.call parts.1 in
      rule_within (open_in before) (all_entered (grid_in before) (members_in before)) (too_much (charges_of m (grid_in before) (members_in before))) c.0
      (subst (λ a. accepted a ≡ true) (t.answer ∙ ap (answer_in m before) c.1) parts.0)

  few_members : (e : Entry) (before : List Entry) → Told m g e before → length (members_in before) ≤ most_members
  few_members e before t = let n = length-map-range_with_len (member_in before) 0 (length (kinds_in before)) in omega (arith, t.few)

  pub fair_days : ((f : Facts) → Within f → f.metered ≡ f.scheduled → m f ≡ pos 0) → ((amount : ℕ) (ws : List ℕ) → Asked amount ws → Parted amount ws (g amount ws)) →
      (J : List Entry) → Each m g J → FairDays J
  fair_days level fair J h e before d =
      let t = told_of J e before h d in
      subst (Settled (members_in before)) (sym (records_are e before t d.closed))
      (settled_within m level (grid_in before) g fair (members_in before) (few_members e before t) (within_sides e before t d.closed))

pub same_days : (m n : Facts → ℤ) (g h : ℕ → List ℕ → List ℕ) (J J' : List Entry) → AlikeTariffs m n → AlikeRules g h → Each m g J → Each n h J' → Same J J'
same_days m n g h J J' tariffs rules each each' e e' before before' d d' a =
    let t = told_of m g J e before each d in
    let t' = told_of n h J' e' before' each' d' in
    records_are m g e before t d.closed
    ∙ (alike_records m n g h tariffs rules (grid_in before) (members_in before) (few_members m g e before t) (within_sides m g e before t d.closed)
    ∙ (ap (λ gs. day_records n h gs (members_in before)) (alike_grid before before' a)
    ∙ (ap (day_records n h (grid_in before')) (alike_members before before' a)
    ∙ sym (records_are n h e' before' t' d'.closed))))

-- the law holds of a journal each of whose entries tells so
pub lawful : (m : Facts → ℤ) (g : ℕ → List ℕ → List ℕ) → ((f : Facts) → Within f → f.metered ≡ f.scheduled → m f ≡ pos 0) → ((amount : ℕ) (ws : List ℕ) → Asked amount ws → Parted amount ws (g amount ws)) →
    (J : List Entry) → Each m g J → Lawful m g J
lawful m g level fair J each = record {
  each = each;
  same = same_days m m g g J J (λ f _. refl) (λ amount ws _. refl) each each;
  fair = fair_days m g level fair J each;
}
