-- What it means that each name of a kind stands once in a line of names, in any order. Assumes nothing.
use Rattle.std.specs.Prelude.{◌≡◌, ℕ, ◌<◌, List, [], length, Some, ◌≢◌, slice_index, slice_index_or}
use Rattle.sheets.specs.Columns.{columns_of}

-- there are as many cells as names, each cell is the name of its column, and no column stands twice
pub record EachOnce (names cells : List (List ℕ)) (columns : List ℕ) : Type 0 where
  pub as_many : length cells ≡ length names
  pub listed : length columns ≡ length cells
  pub inside : (i : ℕ) → i < length cells → slice_index columns i < length names
  pub named : (i : ℕ) → i < length cells → slice_index_or names (slice_index columns i) [] ≡ slice_index_or cells i []
  pub once : (i j : ℕ) → i < j → j < length cells → slice_index columns i ≢ slice_index columns j

-- the names are accepted exactly where each stands once, in whatever order, and give these columns
abbrev pub AnyOrder : List (List ℕ) → Type 0
AnyOrder names =
    (cells : List (List ℕ)) (columns : List ℕ) → (columns_of names cells ≡ Some columns → EachOnce names cells columns) × (EachOnce names cells columns → columns_of names cells ≡ Some columns)
