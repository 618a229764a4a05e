-- How bytes part into lines and lines into cells. Assumes nothing.
use Rattle.std.specs.Prelude.{ℕ, ◌+◌, cond, List, [], ◌∷◌, length, ◌==◌}
use Rattle.cells.specs.Numbers.{Meaning, meaning}

abbrev pub comma : ℕ
comma = 44

abbrev pub line_feed : ℕ
line_feed = 10

-- a byte put before the first part
abbrev pub onto : ℕ → List (List ℕ) → List (List ℕ)
onto b [] = (b ∷ []) ∷ []
onto b (p ∷ ps) = (b ∷ p) ∷ ps

-- the cells of a line: one more than it has commas
abbrev pub cells : List ℕ → List (List ℕ)
cells [] = [] ∷ []
cells (b ∷ bs) = cond (b == comma) ([] ∷ cells bs) (onto b (cells bs))

-- the lines, each ended by a line feed; bytes after the last line feed are a line too
abbrev pub lines : List ℕ → List (List ℕ)
lines [] = []
lines (b ∷ bs) = cond (b == line_feed) ([] ∷ lines bs) (onto b (lines bs))

-- a cell as it is handed out: its bytes, where they start, how many they are, and what they mean
pub record CellShown : Type 0 where
  pub bytes : List ℕ
  pub start : ℕ
  pub len : ℕ
  pub means : Meaning

abbrev pub cell_at : ℕ → List ℕ → CellShown
cell_at start bs = record { bytes = bs; start = start; len = length bs; means = meaning bs }

-- cells one after another, each with its place, and a byte between them
abbrev pub placed : ℕ → List (List ℕ) → List CellShown
placed at [] = []
placed at (c ∷ cs) = cell_at at c ∷ placed (at + length c + 1) cs

-- their bytes alone
abbrev pub texts : List CellShown → List (List ℕ)
texts [] = []
texts (c ∷ cs) = c.bytes ∷ texts cs
