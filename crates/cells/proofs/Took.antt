-- What a cell that was taken says of the cells that were left.
use Rattle.std.proofs.Common.{◌≡◌, ℕ, ◌+◌, false, List, [], ◌∷◌, length, drop, Some, sym, refl, ap, ◌∙◌}
use Rattle.cells.specs.Cells.{CellShown, placed, texts}
use Rattle.cells.specs.Left.{first, others, first_cells, open_lines, is_some_left, cells_at, cells_left}
use Rattle.cells.specs.Numbers.{meaning}
use Rattle.cells.specs.declared.line.LineCells.{LineCells}
use Rattle.cells.specs.declared.line.Next.TheVariants.{Cell, Line}
use Rattle.cells.specs.declared.line.Next.{Next}

pub record Took (s t : LineCells) (c : CellShown) : Type 0 where
  pub were : texts (cells_left s) ≡ c.bytes ∷ texts (cells_left t)
  pub means : c.means ≡ meaning c.bytes

some_same : {X : Type 0} {x y : X} → Some x ≡ Some y → x ≡ y
some_same h = cc

shape : (at : ℕ) (ts : List (List ℕ)) (c : CellShown) (ys : List CellShown) → Some c ≡ first (placed at ts) → ys ≡ others (placed at ts) → (texts (placed at ts) ≡ c.bytes ∷ texts ys) × (c.means ≡ meaning c.bytes)
shape at [] c ys e k = cc
shape at (t ∷ ts) c ys e k =
    let p = some_same e in
    (sym ((λ i. (p i).bytes ∷ texts (k i))), (λ i. (p i).means) ∙ sym (λ i. meaning (p i).bytes))

-- whatever comes next
shape_at : (n : Next) (bs : List ℕ) (c : CellShown) (ys : List CellShown) → Some c ≡ first (cells_at n bs) → ys ≡ others (cells_at n bs) → (texts (cells_at n bs) ≡ c.bytes ∷ texts ys) × (c.means ≡ meaning c.bytes)
shape_at (Cell at) bs c ys e k = shape at (first_cells (open_lines (drop at bs))) c ys e k
shape_at (Line at) bs c ys e k = cc

-- a cell was taken
pub took : (s t : LineCells) (c : CellShown) → Some c ≡ first (cells_left s) → cells_left t ≡ others (cells_left s) → Took s t c
took s t c e k = let p = shape_at s.next s.bytes.now c (cells_left t) e k in record { were = p.0; means = p.1 }

pub none_left : (xs : List CellShown) → is_some_left xs ≡ false → texts xs ≡ []
none_left [] e = refl
none_left (x ∷ xs) e = cc

pub texts_placed : (at : ℕ) (ts : List (List ℕ)) → texts (placed at ts) ≡ ts
texts_placed at [] = refl
texts_placed at (t ∷ ts) = ap (λ us. t ∷ us) (texts_placed (at + length t + 1) ts)
