-- The facts of a day from the entries of its tables. Assumes nothing.
use Rattle.std.specs.Prelude.{ℕ, List, [], ◌∷◌, pos, Some, None, Option}
use Rattle.std.specs.Option.{option_map, option_zip}
use Rattle.std.specs.Bool.{then_some}
use Rattle.facts.specs.Facts.{Facts}
use Rattle.facts.specs.Refusals.{facts_fit, facts_of}
use Rattle.facts.specs.declared.kinds.Kind.{Kind}
use Rattle.member_day.specs.declared.entries.ReadingEntry.{ReadingEntry}
use Rattle.member_day.specs.declared.entries.GridEntry.{GridEntry}

-- the blocks of a day
abbrev pub blocks : ℕ
blocks = 96

-- the facts of a block, none where an entry is missing or outside its limits
abbrev pub facts_at : Kind → Option ReadingEntry → Option GridEntry → Option Facts
facts_at k None g = None
facts_at k (Some r) None = None
facts_at k (Some r) (Some g) =
    then_some (facts_fit k (pos r.scheduled) (pos r.metered) (pos r.available) (pos g.hz100) (pos g.price))
    (facts_of k (pos r.scheduled) (pos r.metered) (pos r.available) (pos g.hz100) (pos g.price))

-- the facts of all blocks, none where one has none; there are as many readings as grid rows
abbrev pub day_facts : Kind → List (Option ReadingEntry) → List (Option GridEntry) → Option (List Facts)
day_facts k [] [] = Some []
day_facts k [] (g ∷ gs) = None
day_facts k (r ∷ rs) [] = None
day_facts k (r ∷ rs) (g ∷ gs) = option_map (λ p. p.0 ∷ p.1) (option_zip (facts_at k r g) (day_facts k rs gs))
