-- What a reader of cells has left. Assumes nothing.
use Rattle.std.specs.Prelude.{◌≡◌, ℕ, Bool, true, false, List, [], ◌∷◌, drop, Some, None, Option}
use Rattle.cells.specs.Cells.{lines, cells, placed, CellShown}
use Rattle.cells.specs.declared.line.LineCells.{LineCells}
use Rattle.cells.specs.declared.line.Next.TheVariants.{Cell, Line}
use Rattle.cells.specs.declared.line.Next.{Next}

abbrev pub first : {X : Type 0} → List X → Option X
first [] = None
first (x ∷ xs) = Some x

abbrev pub others : {X : Type 0} → List X → List X
others [] = []
others (x ∷ xs) = xs

abbrev pub is_some_left : {X : Type 0} → List X → Bool
is_some_left [] = false
is_some_left (x ∷ xs) = true

-- the cells of the first of some lines
abbrev pub first_cells : List (List ℕ) → List (List ℕ)
first_cells [] = []
first_cells (l ∷ ls) = cells l

-- the bytes from a place on, as lines; an open line at the end of the bytes is empty
abbrev pub open_lines : List ℕ → List (List ℕ)
open_lines [] = [] ∷ []
open_lines (b ∷ bs) = lines (b ∷ bs)

-- the cells that are left, with their places, where this comes next
abbrev pub cells_at : Next → List ℕ → List CellShown
cells_at (Cell at) bs = placed at (first_cells (open_lines (drop at bs)))
cells_at (Line at) bs = []

-- the lines after them
abbrev pub after_at : Next → List ℕ → List (List ℕ)
after_at (Cell at) bs = others (open_lines (drop at bs))
after_at (Line at) bs = lines (drop at bs)

-- the cells that are left of the line
abbrev pub cells_left : LineCells → List CellShown
cells_left s = cells_at s.next s.bytes.now

-- the lines after it
abbrev pub lines_after : LineCells → List (List ℕ)
lines_after s = after_at s.next s.bytes.now

-- the bytes and the lines after this one stay
pub record SameSheet (s t : LineCells) : Type 0 where
  pub bytes : t.bytes.now ≡ s.bytes.now
  pub lines : lines_after t ≡ lines_after s
