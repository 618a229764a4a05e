-- The sums of a day, one block more. Assumes nothing.
use Rattle.std.proofs.Common.{◌≡◌, suc, ◌+◌, ◌*◌, ◌≤◌, List, ◌∷◌, map, length, ℤ, pos, ◌+ℤ◌, nat_abs, Some, None, Option, refl, ap, ◌∙◌, arith}
use Rattle.std.proofs.lemmas.Int.{ints}
use Rattle.std.specs.Option.{option_map, option_zip}
use Rattle.facts.specs.Facts.{Facts}
use Rattle.facts.specs.declared.kinds.Kind.{Kind}
use Rattle.quantities.specs.Limits.{most_charge}
use Rattle.quantities.specs.declared.paise.Paise.{Paise}
use Rattle.member_day.specs.Counts.{after_all, used}
use Rattle.member_day.specs.Days.{base_of, day_due, due_on, most_base}
use Rattle.member_day.specs.Entries.{blocks, day_facts, facts_at}
use Rattle.member_day.specs.Laws.{AsScheduled}
use Rattle.member_day.specs.Runs.{direction}
use Rattle.member_day.specs.declared.direction.Direction.{Direction}
use Rattle.member_day.specs.declared.due.Due.{Due}
use Rattle.member_day.specs.declared.entries.ReadingEntry.{ReadingEntry}
use Rattle.member_day.specs.declared.entries.GridEntry.{GridEntry}
use Rattle.member_day.specs.declared.runs.RunCount.{RunCount}
use Rattle.tariff.specs.Charges.{Bounded}
use Rattle.member_day.proofs.LevelDay.{level_at}

-- the due on the sums so far, with what the blocks to come add
abbrev pub due_after : (Facts → ℤ) → Kind → Paise → RunCount → List Facts → Due
due_after m k base count fs = due_on k (after_all count (map direction fs)) (base.paise +ℤ base_of m fs)

-- Of the rows of a day some are left: with what they add, the sums so far make the day's due.
pub record Underway (m : Facts → ℤ) (k : Kind) (readings : List (Option ReadingEntry)) (grid : List (Option GridEntry)) (rs : List (Option ReadingEntry)) (gs : List (Option GridEntry)) (base : Paise) (count : RunCount) : Type 0 where
  pub alike : length rs ≡ length gs
  pub due : option_map (due_after m k base count) (day_facts k rs gs) ≡ option_map (day_due m k) (day_facts k readings grid)
  pub charged : nat_abs base.paise + most_charge * length rs ≤ most_base
  pub counted : used count + length rs ≤ blocks
  pub level : AsScheduled readings → (base.paise ≡ pos 0) × AsScheduled rs

-- the charge and the direction of a block go from what is left to the sums so far
pub one_more : (m : Facts → ℤ) (k : Kind) (readings : List (Option ReadingEntry)) (grid : List (Option GridEntry)) (rs rs' : List (Option ReadingEntry)) (gs gs' : List (Option GridEntry)) (r : Option ReadingEntry) (g : Option GridEntry) (base base' : Paise) (count count' : RunCount) (f : Facts) (charge : ℤ) (d : Direction) → rs ≡ r ∷ rs' → gs ≡ g ∷ gs' → Some f ≡ facts_at k r g → charge ≡ m f → Bounded charge → (f.metered ≡ f.scheduled → charge ≡ pos 0) → base'.paise ≡ base.paise +ℤ charge → d ≡ direction f → ((ds : List Direction) → after_all count' ds ≡ after_all count (d ∷ ds)) → used count' ≤ used count + 1 → Underway m k readings grid rs gs base count → Underway m k readings grid rs' gs' base' count'
one_more m k readings grid rs rs' gs gs' r g base base' count count' f charge d er eg some meant bounded none sum way step room u =
    let same : Underway m k readings grid (r ∷ rs') (g ∷ gs') base count = rw er at (rw eg at u) in
    record {
      alike = let e = same.alike in omega arith;
      due = moved (day_facts k rs' gs') ∙ (ap (λ o. option_map (due_after m k base count) (option_map (λ p. p.0 ∷ p.1) (option_zip o (day_facts k rs' gs')))) some ∙ same.due);
      charged = let most = same.charged in omega (arith, ints, bounded.low, bounded.high);
      counted = let most = same.counted in omega arith;
      level = λ scheduled.
          let was = same.level scheduled in
          let here = none (level_at k r g f some (was.1 0 None (omega arith))) in
          (omega (arith, ints), λ n x h. was.1 (suc n) x (omega arith));
    }
  where
    moved : (rest : Option (List Facts)) → option_map (due_after m k base' count') rest ≡ option_map (due_after m k base count) (option_map (λ p. p.0 ∷ p.1) (option_zip (Some f) rest))
    moved None = refl
    moved (Some fs) =
        let total : base'.paise +ℤ base_of m fs ≡ base.paise +ℤ (m f +ℤ base_of m fs) = omega (arith, ints) in
        let counted = step (map direction fs) in
        cc
