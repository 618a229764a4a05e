-- Values of ten digits at most. Assumes nothing.
use Rattle.std.specs.Prelude.{ℕ, ◌≤◌, List, [], ◌∷◌}
use Rattle.cells.specs.Numbers.{most_number}

abbrev pub Small : List ℕ → Type 0
Small [] = Unit {0}
Small (v ∷ vs) = (v ≤ most_number) × Small vs

-- every value of every row
abbrev pub SmallRows : List (List ℕ) → Type 0
SmallRows [] = Unit {0}
SmallRows (v ∷ vs) = Small v × SmallRows vs
