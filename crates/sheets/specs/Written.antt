-- A sheet written out from rows, and that it reads back. Assumes nothing.
use Rattle.std.specs.Prelude.{◌≡◌, ℕ, ◌<◌, ◌≤◌, Bool, cond, List, [], ◌∷◌, ◌++◌, map, length, Ok, decimal, All, ◌≢◌, slice_index, slice_index_or}
use Rattle.cells.specs.Cells.{comma, line_feed}
use Rattle.sheet_kinds.specs.Tables.{Table}
use Rattle.sheets.specs.Sheets.{most_bytes, sheet_rows}
use Rattle.sheets.specs.Small.{SmallRows}

-- the cells after the first, each with a comma before it
abbrev pub after_first : List (List ℕ) → List ℕ
after_first [] = []
after_first (c ∷ cs) = comma ∷ (c ++ after_first cs)

-- cells with a comma between each two
abbrev pub with_commas : List (List ℕ) → List ℕ
with_commas [] = []
with_commas (c ∷ cs) = c ++ after_first cs

-- a line: its cells, and a line feed at its end
abbrev pub line_of : List (List ℕ) → List ℕ
line_of cs = with_commas cs ++ line_feed ∷ []

-- the names in the order of the columns
abbrev pub names_in : List (List ℕ) → List ℕ → List (List ℕ)
names_in names columns = map (λ k. slice_index_or names k []) columns

-- the values of a row in the order of the columns, each by its digits with no leading zero
abbrev pub digits_in : List ℕ → List ℕ → List (List ℕ)
digits_in row columns = map (λ k. decimal (slice_index row k)) columns

-- a line for each row
abbrev pub written_rows : List ℕ → List (List ℕ) → List ℕ
written_rows columns [] = []
written_rows columns (row ∷ rows) = line_of (digits_in row columns) ++ written_rows columns rows

-- the bytes EF BB BF, or none
abbrev pub mark_bytes : Bool → List ℕ
mark_bytes marked = cond marked (239 ∷ 187 ∷ 191 ∷ []) []

-- the whole sheet: the mark or none, the line of the names, the lines of the rows
abbrev pub written : Bool → Table → List ℕ → List (List ℕ) → List ℕ
written marked table columns rows = mark_bytes marked ++ (line_of (names_in table.names columns) ++ written_rows columns rows)

-- the columns are the places of n names, each once, in any order
pub record EachPlace (n : ℕ) (columns : List ℕ) : Type 0 where
  pub as_many : length columns ≡ n
  pub inside : (i : ℕ) → i < n → slice_index columns i < n
  pub once : (i j : ℕ) → i < j → j < n → slice_index columns i ≢ slice_index columns j

-- rows with a value for each name, of ten digits at most, written out in any order of the names,
-- with the mark or without it, read back as these rows, where the sheet is not too long
abbrev pub ReadsBack : Table → Type 0
ReadsBack table =
    (marked : Bool) (columns : List ℕ) (rows : List (List ℕ)) → 0 < length table.names → EachPlace (length table.names) columns → All (λ row. length row ≡ length table.names) rows → SmallRows rows → length (written marked table columns rows) ≤ most_bytes → sheet_rows table (written marked table columns rows) ≡ Ok rows
