-- The facts of a day that has its entries. Assumes nothing.
use Rattle.std.proofs.Common.{◌≡◌, ℕ, Bool, true, false, List, [], ◌∷◌, ℤ, pos, ◌+ℤ◌, Some, None, IfSome, All, Option, unwrap_or, refl, ap, ◌∙◌, subst, arith}
use Rattle.std.proofs.lemmas.Bool.Decides.{nat_tests}
use Rattle.std.proofs.lemmas.List.Elements.{All-nil, All-cons, All-head, All-tail}
use Rattle.std.specs.Option.{option_map, option_zip}
use Rattle.std.specs.Bool.{then_some}
use Rattle.facts.specs.Facts.{Facts, Within}
use Rattle.facts.specs.Refusals.{facts_fit, facts_of}
use Rattle.facts.specs.declared.kinds.Kind.{Kind}
use Rattle.member_day.proofs.LevelDay.{level_at, nothing_due}
use Rattle.member_day.specs.Days.{base_of, due_on, sevenths_of, surcharge_of}
use Rattle.quantities.specs.Money.{money}
use Rattle.member_day.specs.Entries.{day_facts, facts_at}
use Rattle.member_day.specs.Laws.{AsScheduled}
use Rattle.member_day.specs.declared.due.Due.{Due}
use Rattle.member_day.specs.declared.entries.GridEntry.{GridEntry}
use Rattle.member_day.specs.declared.entries.ReadingEntry.{ReadingEntry}
use Rattle.day.specs.Dues.{due_as, due_of, facts_in}
use Rattle.day.specs.Records.{no_due}
use Rattle.day.specs.declared.member.Member.{Member}
use Rattle.day.specs.declared.member.MemberKind.{MemberKind}
use Rattle.day.specs.declared.member.MemberKind.TheVariants.{Metered, Regional}

-- ---- each of the facts

never_none : {X : Type 0} (x : X) → Some x ≡ None → ⊥
never_none x e = let z : ◌≡◌ {A = ℕ} 0 1 = cc in omega arith

fit_within : (k : Kind) (s m a h p : ℕ) → facts_fit k (pos s) (pos m) (pos a) (pos h) (pos p) ≡ true → Within (facts_of k (pos s) (pos m) (pos a) (pos h) (pos p))
fit_within k s m a h p fit = record {
  scheduled_fits = grind (arith, nat_tests);
  metered_fits = grind (arith, nat_tests);
  available_least = grind (arith, nat_tests);
  available_most = grind (arith, nat_tests);
  hz100_least = grind (arith, nat_tests);
  hz100_most = grind (arith, nat_tests);
  price_fits = grind (arith, nat_tests);
}

when_within : (b : Bool) (f g : Facts) → Some f ≡ then_some b g → (b ≡ true → Within g) → Within f
when_within true f g e within = let same : g ≡ f = cc in subst Within same (within refl)
when_within false f g e within = absurd (never_none f e)

at_within : (k : Kind) (r : Option ReadingEntry) (g : Option GridEntry) (f : Facts) → Some f ≡ facts_at k r g → Within f
at_within k None g f e = absurd (never_none f e)
at_within k (Some r) None f e = absurd (never_none f e)
at_within k (Some r) (Some g) f e = when_within _ f _ e (fit_within k r.scheduled r.metered r.available g.hz100 g.price)

-- ---- all of them

module _ (P : Facts → Type 0) where
  all_cons : (o : Option Facts) (os : Option (List Facts)) → ((f : Facts) → Some f ≡ o → P f) → All P (unwrap_or os []) → All P (unwrap_or (option_map (λ p. p.0 ∷ p.1) (option_zip o os)) [])
  all_cons None os here rest = All-nil P
  all_cons (Some f) None here rest = All-nil P
  all_cons (Some f) (Some fs) here rest = All-cons P f fs (here f refl) rest

  all_facts : (k : Kind) (Q : Option ReadingEntry → Type 0) (rs : List (Option ReadingEntry)) (gs : List (Option GridEntry)) → ((r : Option ReadingEntry) (g : Option GridEntry) (f : Facts) → Q r → Some f ≡ facts_at k r g → P f) → All Q rs → All P (unwrap_or (day_facts k rs gs) [])
  all_facts k Q [] [] each qs = All-nil P
  all_facts k Q [] (g ∷ gs) each qs = All-nil P
  all_facts k Q (r ∷ rs) [] each qs = All-nil P
  all_facts k Q (r ∷ rs) (g ∷ gs) each qs =
      all_cons (facts_at k r g) (day_facts k rs gs) (λ f e. each r g f (All-head Q r rs qs) e) (all_facts k Q rs gs each (All-tail Q r rs qs))

all_unit : {X : Type 0} (xs : List X) → All (λ _. Unit {0}) xs
all_unit xs = λ k d h. tt

-- ---- what they come to

base_alike : (m n : Facts → ℤ) (fs : List Facts) → All (λ f. m f ≡ n f) fs → base_of m fs ≡ base_of n fs
base_alike m n [] same = refl
base_alike m n (f ∷ fs) same = ap (λ z. z +ℤ base_of m fs) (All-head (λ f'. m f' ≡ n f') f fs same) ∙ ap (λ z. n f +ℤ z) (base_alike m n fs (All-tail (λ f'. m f' ≡ n f') f fs same))

base_nothing : (fs : List Facts) → base_of (λ _. pos 0) fs ≡ pos 0
base_nothing [] = refl
base_nothing (f ∷ fs) = ap (λ z. pos 0 +ℤ z) (base_nothing fs)

-- a member metered as scheduled owes nothing
module _ (m : Facts → ℤ) (level : (f : Facts) → Within f → f.metered ≡ f.scheduled → m f ≡ pos 0) (gs : List (Option GridEntry)) (mb : Member) where
  pub due_level : (k : Kind) → mb.kind ≡ Metered k → AsScheduled mb.readings → due_of m gs mb ≡ no_due
  due_level k is scheduled =
      let fs = facts_in k gs mb in
      let n = sevenths_of fs in
      let each = all_facts (λ f. m f ≡ pos 0) k (λ r. IfSome r (λ e. e.metered ≡ e.scheduled)) mb.readings gs (λ r g f q e. level f (at_within k r g f e) (level_at k r g f e q)) scheduled in
      let base : base_of m fs ≡ pos 0 = base_alike m (λ _. pos 0) fs each ∙ base_nothing fs in
      let none = (nothing_due k n (money (pos 0)) (money (pos (surcharge_of k n (pos 0)))) refl refl).1 in
      ap (λ x. due_as m gs x mb) is ∙ (ap (due_on k n) base ∙ ap with_surcharge none)
    where
      with_surcharge : ℤ → Due
      with_surcharge z = record { base = money (pos 0); surcharge = money z }

-- tariffs that charge alike within the limits give equal dues
module _ (m n : Facts → ℤ) (alike : (f : Facts) → Within f → m f ≡ n f) (gs : List (Option GridEntry)) where
  due_as_alike : (k : MemberKind) (mb : Member) → due_as m gs k mb ≡ due_as n gs k mb
  due_as_alike (Metered k) mb =
      let fs = facts_in k gs mb in
      let each = all_facts (λ f. m f ≡ n f) k (λ _. Unit {0}) mb.readings gs (λ r g f q e. alike f (at_within k r g f e)) (all_unit mb.readings) in
      ap (due_on k (sevenths_of fs)) (base_alike m n fs each)
  due_as_alike Regional mb = refl

  pub due_alike : (mb : Member) → due_of m gs mb ≡ due_of n gs mb
  due_alike mb = due_as_alike mb.kind mb
