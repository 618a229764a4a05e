-- What runs count and what days keep, in the words of the subject. Assumes nothing.
use Rattle.std.specs.Prelude.{◌≡◌, ℕ, ◌+◌, ◌*◌, ◌/◌, ◌≤◌, false, List, [], ◌∷◌, ◌++◌, length, replicate, IfSome, All, Option}
use Rattle.member_day.specs.Runs.{goes_on, runs}
use Rattle.member_day.specs.declared.direction.Direction.{Direction}
use Rattle.member_day.specs.declared.direction.Direction.TheVariants.{Level, Over, Under}
use Rattle.member_day.specs.declared.entries.ReadingEntry.{ReadingEntry}

-- every reading that there is has been metered as scheduled
abbrev pub AsScheduled : List (Option ReadingEntry) → Type 0
AsScheduled rs = All (λ r. IfSome r (λ e. e.metered ≡ e.scheduled)) rs

-- The laws that fix what runs count: a stretch of one direction counts a seventh of its length; level
-- blocks count nothing; a run ends at each block that does not go on with it, so that both parts count
-- apart; a run takes up its blocks.
pub record Counted : Type 0 where
  pub over : (k : ℕ) → runs Level (replicate k Over) ≡ k / 7
  pub under : (k : ℕ) → runs Level (replicate k Under) ≡ k / 7
  pub level : (k : ℕ) → runs Level (replicate k Level) ≡ 0
  pub apart : (ds : List Direction) (a b : Direction) (es : List Direction) → goes_on a b ≡ false →
      runs Level ((ds ++ (a ∷ [])) ++ (b ∷ es)) ≡ runs Level (ds ++ (a ∷ [])) + runs Level (b ∷ es)
  pub few : (ds : List Direction) → 7 * runs Level ds ≤ length ds
