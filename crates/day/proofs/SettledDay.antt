-- The records of a closed day keep the law. Assumes nothing.
use Rattle.std.proofs.Common.{◌≡◌, ℕ, zero, suc, ◌+◌, ◌-◌, ◌<◌, ◌≤◌, true, false, cond, List, [], ◌∷◌, ◌++◌, map, length, get_or, take, replicate, ℤ, pos, ◌+ℤ◌, nat_abs, is_ok, Option, Result, sym, refl, ap, ◌∙◌, subst, inl, inr, arith}
use Rattle.std.proofs.lemmas.List.FromFn.{length-map-range_with_len, get_or-map-range_with_len, fill_by_all}
use Rattle.std.proofs.lemmas.List.{length-map, get_or-map, length-append, length-replicate, get_or_append_left, get_or-append_right, get_or-replicate, get_or_past, ext_get_or, take_at}
use Rattle.std.proofs.lemmas.Int.{ints}
use Rattle.std.proofs.lemmas.Bool.{cases_lt, cond-true}
use Rattle.std.specs.List.{range_with_len}
use Rattle.facts.specs.Facts.{Facts, Within}
use Rattle.member_day.specs.declared.due.Due.{Due}
use Rattle.member_day.specs.declared.entries.GridEntry.{GridEntry}
use Rattle.parting.specs.Rule.{Asked, Parted}
use Rattle.quantities.specs.Limits.{most_money}
use Rattle.quantities.specs.declared.paise.Paise.{Paise}
use Rattle.sharing.proofs.FairDay.{fair_whole}
use Rattle.sharing.specs.Laws.{together, charge_at, line_at, distance, Fair}
use Rattle.sharing.specs.Shares.{lines_of, reserve, too_much}
use Rattle.sharing.specs.Sides.{no_charge, weight_on, adjustable, by_average}
use Rattle.quantities.specs.Money.{money}
use Rattle.day.specs.Dues.{all_entered, due_of, charge_of, charges_of}
use Rattle.day.specs.Laws.{record_in, told, told_at, charges_told, Settled}
use Rattle.day.specs.Members.{most_members, nobody, member_at}
use Rattle.day.specs.Records.{no_due, nothing, record_of, record_at, record_count, records_by, day_records}
use Rattle.day.specs.declared.member.Member.{Member}
use Rattle.day.specs.declared.record.Record.{Record}
use Rattle.day.specs.declared.unclosed.Unclosed.{Unclosed}
use Rattle.day.proofs.Accepted.{accepted, answer}
use Rattle.day.proofs.DayFacts.{due_level}

abbrev no_money : Paise
no_money = money (pos 0)

-- ---- the records one by one

module _ (ds : List Due) (ls : List Paise) (z : Paise) where
  front : length (map (record_at ds ls) (range_with_len 0 most_members)) ≡ most_members
  front = length-map-range_with_len (record_at ds ls) 0 most_members

  pub length_records : length (records_by ds ls z) ≡ record_count
  unfolding records_by
  length_records = length-append (map (record_at ds ls) (range_with_len 0 most_members)) (record_of no_due z ∷ [])

  records_at : (k : ℕ) → k < most_members → record_in (records_by ds ls z) k ≡ record_at ds ls k
  unfolding records_by
  records_at k h = get_or_append_left (map (record_at ds ls) (range_with_len 0 most_members)) (record_of no_due z ∷ []) nothing k h ∙ get_or-map-range_with_len (record_at ds ls) 0 most_members k k nothing h (omega arith)

  records_last : record_in (records_by ds ls z) most_members ≡ record_of no_due z
  unfolding records_by
  records_last = refl

-- ---- the sum of the lines

sum_append : (xs ys : List Paise) → together (xs ++ ys) ≡ together xs +ℤ together ys
sum_append [] ys = omega (arith, ints)
sum_append (x ∷ xs) ys = let r = sum_append xs ys in omega (arith, ints)

sum_zeros : (n : ℕ) → together (replicate n no_money) ≡ pos 0
sum_zeros zero = refl
sum_zeros (suc n) = let r = sum_zeros n in omega (arith, ints)

-- a list with zeros up to the places of members
spread : (ls : List Paise) → length ls ≤ most_members → ls ++ replicate (most_members - length ls) no_money ≡ map (line_at ls) (range_with_len 0 most_members)
spread ls few = fill_by_all (line_at ls) (ls ++ replicate (most_members - length ls) no_money) most_members no_money
    (length-append ls (replicate (most_members - length ls) no_money) ∙ (ap (λ n. length ls + n) (length-replicate (most_members - length ls) no_money) ∙ omega arith))
    (λ k h. elim (cases_lt k (length ls)) [
      | inl l ↦ get_or_append_left ls (replicate (most_members - length ls) no_money) no_money k l
      | inr l ↦ get_or-append_right ls (replicate (most_members - length ls) no_money) (length ls) k no_money refl l ∙ (get_or-replicate (most_members - length ls) (k - length ls) no_money no_money (omega arith) ∙ sym (get_or_past ls k no_money l))
    ])

sum_spread : (ls : List Paise) → length ls ≤ most_members → together (map (line_at ls) (range_with_len 0 most_members)) ≡ together ls
sum_spread ls few =
    let t = sum_append ls (replicate (most_members - length ls) no_money) in
    let n = sum_zeros (most_members - length ls) in
    sym (ap together (spread ls few)) ∙ omega (arith, ints)

map_map : {X Y Z : Type 0} (p : Y → Z) (q : X → Y) (xs : List X) → map p (map q xs) ≡ map (λ x. p (q x)) xs
map_map p q [] = refl
map_map p q (x ∷ xs) = ap (λ l. p (q x) ∷ l) (map_map p q xs)

sum_records : (ds : List Due) (ls : List Paise) (z : Paise) → length ls ≤ most_members → together (map (λ r. r.line) (records_by ds ls z)) ≡ together ls +ℤ z.paise
unfolding records_by
sum_records ds ls z few =
    let one : map (λ r. r.line) (map (record_at ds ls) (range_with_len 0 most_members) ++ (record_of no_due z ∷ [])) ≡ map (line_at ls) (range_with_len 0 most_members) ++ (z ∷ []) = refl in
    let t = sum_append (map (line_at ls) (range_with_len 0 most_members)) (z ∷ []) in
    let s = sum_spread ls few in
    ap together one ∙ (t ∙ (ap (λ x. x +ℤ (z.paise +ℤ pos 0)) s ∙ omega (arith, ints)))

-- ---- the charges that the records tell

length_told : (ms : List Member) (rs : List Record) → length ms ≤ length rs → length (charges_told ms rs) ≡ length ms
length_told [] rs h = refl
length_told (mb ∷ ms) [] h = absurd (omega arith)
length_told (mb ∷ ms) (r ∷ rs) h = ap suc (length_told ms rs (omega arith))

told_is : (ms : List Member) (rs : List Record) (k : ℕ) → length ms ≤ length rs → k < length ms → get_or (charges_told ms rs) k no_charge ≡ told_at ms rs k
told_is [] rs k h l = absurd (omega arith)
told_is (mb ∷ ms) [] k h l = absurd (omega arith)
told_is (mb ∷ ms) (r ∷ rs) zero h l = refl
told_is (mb ∷ ms) (r ∷ rs) (suc k) h l = told_is ms rs k (omega arith) (omega arith)

-- ---- the law

module _ (m : Facts → ℤ) (level : (f : Facts) → Within f → f.metered ≡ f.scheduled → m f ≡ pos 0) (gs : List (Option GridEntry)) where
  module _ (ms : List Member) (few : length ms ≤ most_members) (ls : List Paise) (z : Paise) (fair : Fair (charges_of m gs ms) ls z) where
    none : (k : ℕ) → length ms ≤ k → k < most_members → record_in (records_by (map (due_of m gs) ms) ls z) k ≡ nothing
    none k l h =
        let ds = map (due_of m gs) ms in
        let a = get_or_past ds k no_due (omega (arith, length-map ms (due_of m gs))) in
        let b = get_or_past ls k no_money (omega (arith, fair.as_many, length-map ms (charge_of m gs))) in
        records_at ds ls z k h ∙ (ap (λ d. record_of d (line_at ls k)) a ∙ ap (record_of no_due) b)

    settled : Settled ms (records_by (map (due_of m gs) ms) ls z)
    settled =
        let ds = map (due_of m gs) ms in
        let rs = records_by ds ls z in
        let cs = charges_of m gs ms in
        let n : length rs ≡ record_count = length_records ds ls z in
        let ln : length cs ≡ length ms = length-map ms (charge_of m gs) in
        let due : (k : ℕ) → k < length ms → get_or ds k no_due ≡ due_of m gs (member_at ms k) = λ k h. get_or-map (due_of m gs) ms k nobody no_due h in
        let at : (k : ℕ) → k < length ms → record_in rs k ≡ record_of (due_of m gs (member_at ms k)) (line_at ls k) = λ k h. records_at ds ls z k (omega arith) ∙ ap (λ d. record_of d (line_at ls k)) (due k h) in
        let charge : (k : ℕ) → k < length ms → charge_at cs k ≡ told_at ms rs k = λ k h. get_or-map (charge_of m gs) ms k nobody no_charge h ∙ sym (ap (told (member_at ms k)) (at k h)) in
        let line : (k : ℕ) → k < length ms → (record_in rs k).line ≡ line_at ls k = λ k h. ap (λ r. r.line) (at k h) in
        let last = records_last ds ls z in
        let same : charges_told ms rs ≡ cs = ext_get_or no_charge (charges_told ms rs) cs (length_told ms rs (omega arith) ∙ sym ln)
        (λ k h. let l : k < length ms = omega (arith, length_told ms rs (omega arith)) in told_is ms rs k (omega arith) l ∙ sym (charge k l)) in
        record {
          seventeen = n;
          even = sum_records ds ls z (omega (arith, fair.as_many)) ∙ fair.even;
          near = λ avg s k h w.
              let w' : 0 < weight_on s (charge_at cs k) = subst (λ c. 0 < weight_on s c) (sym (charge k h)) w in
              let f = fair.near (sym (ap by_average same) ∙ avg) s k (omega arith) w' in
              let f1 : distance s cs (record_in rs k).line (charge_at cs k).sum < adjustable s cs = subst (λ x. distance s cs x (charge_at cs k).sum < adjustable s cs) (sym (line k h)) f in
              let f2 : distance s cs (record_in rs k).line (told_at ms rs k).sum < adjustable s cs = subst (λ x. distance s cs (record_in rs k).line x.sum < adjustable s cs) (charge k h) f1 in
              subst (λ c. distance s c (record_in rs k).line (told_at ms rs k).sum < adjustable s c) (sym same) f2;
          borne = λ avg. ap (λ r. r.line) last ∙ fair.borne (sym (ap by_average same) ∙ avg);
          unshared = λ other k h. line k h ∙ (fair.unshared (sym (ap by_average same) ∙ other) k (omega arith) ∙ ap (λ c. c.sum) (charge k h));
          stays = λ k h f. line k h ∙ (fair.stays k (omega arith) (ap (λ c. c.fixed) (charge k h) ∙ f) ∙ ap (λ c. c.sum) (charge k h));
          within = λ k h. elim (cases_lt k (length ms)) [
            | inl l ↦ subst (λ x. nat_abs x.paise ≤ most_money) (sym (line k l)) (fair.within k (omega arith))
            | inr l ↦ elim (cases_lt k most_members) [
              | inl j ↦ subst (λ x. nat_abs x.line.paise ≤ most_money) (sym (none k l j)) (omega arith)
              | inr j ↦ let e : k ≡ most_members = omega arith in subst (λ x. nat_abs x.line.paise ≤ most_money) (sym (ap (record_in rs) e ∙ last)) fair.within_reserve
            ]
          ];
          level = λ k kind h is scheduled.
              let d = due_level m level gs (member_at ms k) kind is scheduled in
              let s : (charge_at cs k).sum ≡ no_money = ap (λ c. c.sum) (get_or-map (charge_of m gs) ms k nobody no_charge h) ∙ ap (λ x. money (x.base.paise +ℤ x.surcharge.paise)) d in
              at k h ∙ (ap (λ x. record_of x (line_at ls k)) d ∙ ap (record_of no_due) (fair.nothing k (omega arith) s));
          empty = none;
          reserve = (ap (λ r. r.base) last, ap (λ r. r.surcharge) last);
        }

  module _ (g : ℕ → List ℕ → List ℕ) (fair : (amount : ℕ) (ws : List ℕ) → Asked amount ws → Parted amount ws (g amount ws)) (ms : List Member) where
    -- the records of a day whose sides are within their limit keep the law, whatever the tariff and the rule are
    pub settled_within : length ms ≤ most_members → too_much (charges_of m gs ms) ≡ false → Settled ms (day_records m g gs ms)
    settled_within few small =
        let cs = charges_of m gs ms in
        let whole = fair_whole g fair cs (omega (arith, length-map ms (charge_of m gs))) small in
        settled ms few (lines_of g cs) (reserve cs) whole

    -- so do the first of the records that are given, where they are written
    pub settled_answer : (out rest old : List Record) (r : Result (Unit {0}) Unclosed) → length ms ≤ most_members → r ≡ answer (all_entered gs ms) false (too_much (charges_of m gs ms)) → out ≡ cond (is_ok r) (day_records m g gs ms ++ rest) old → is_ok r ≡ true → Settled ms (take record_count out)
    settled_answer out rest old r few is written ok =
        let e : out ≡ day_records m g gs ms ++ rest = written ∙ cond-true (is_ok r) (day_records m g gs ms ++ rest) old ok in
        let n = length_records (map (due_of m gs) ms) (lines_of g (charges_of m gs ms)) (reserve (charges_of m gs ms)) in
        let t : take record_count out ≡ day_records m g gs ms = ap (take record_count) e ∙ take_at (day_records m g gs ms) rest record_count n in
        let small = (accepted (all_entered gs ms) false (too_much (charges_of m gs ms)) (sym (ap is_ok is) ∙ ok)).1 in
        subst (Settled ms) (sym t) (settled_within few small)
