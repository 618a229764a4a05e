-- The next line of a sheet: none where no cell is left, else its row or its fault.
use Rattle.std.proofs.Common.{◌≡◌, ℕ, ◌+◌, ◌<◌, true, false, cond, eqb, List, [], ◌∷◌, length, Some, None, Ok, Err, Result, sym, refl, ap, ◌∙◌, suc-le-suc, zero-le, arith}
use Rattle.cells.proofs.Took.{texts_placed}
use Rattle.cells.specs.Cells.{cells, onto, comma, placed, texts}
use Rattle.cells.specs.Left.{first_cells, others, is_some_left}
use Rattle.sheet_kinds.specs.Tables.{Table}
use Rattle.sheet_kinds.specs.declared.fault.RowFault.{RowFault}
use Rattle.sheets.specs.Rows.{map_ok, read_row, by_place}
use Rattle.sheets.specs.States.{next_row, line_less}
use Rattle.std.proofs.lemmas.Bool.{true≢false}

some_onto : (b : ℕ) (cs : List (List ℕ)) → 0 < length (onto b cs)
some_onto b [] = suc-le-suc zero-le
some_onto b (c ∷ cs) = suc-le-suc zero-le

some_cells : (l : List ℕ) → 0 < length (cells l)
some_cells [] = suc-le-suc zero-le
some_cells (b ∷ bs) =
    elim (eqb b comma) as (λ t. 0 < length (cond t ([] ∷ cells bs) (onto b (cells bs)))) [ true ↦ suc-le-suc zero-le | false ↦ some_onto b (cells bs) ]

placed_some : (at : ℕ) (ts : List (List ℕ)) → 0 < length ts → is_some_left (placed at ts) ≡ true
placed_some at [] h = absurd (omega arith)
placed_some at (t ∷ ts) h = refl

map_some : {X R E : Type 0} (f : X → R) (r : Result X E) → map_ok Some (map_ok f r) ≡ map_ok (λ x. Some (f x)) r
map_some f (Ok x) = refl
map_some f (Err e) = refl

-- the reader of the first of some lines starts at a place
module _ {R : Type 0} (table : Table) (row_of : (ℕ → ℕ) → R) (line : ℕ) (columns : List ℕ) (at : ℕ) where
  pub at_end : (ls : List (List ℕ)) → is_some_left (placed at (first_cells ls)) ≡ false → (Ok None ≡ next_row table row_of (record { left = ls; line = line; columns = columns })) × (record { left = ls; line = line; columns = columns } ≡ line_less (record { left = ls; line = line; columns = columns }))
  at_end [] e = (refl, refl)
  at_end (l ∷ ls) e = absurd (true≢false (sym (placed_some at (cells l) (some_cells l)) ∙ e))

  pub row_read : (ls : List (List ℕ)) (r : Result R RowFault) → is_some_left (placed at (first_cells ls)) ≡ true → r ≡ map_ok (λ v. row_of (by_place v)) (read_row table line columns (texts (placed at (first_cells ls)))) → map_ok Some r ≡ next_row table row_of (record { left = ls; line = line; columns = columns })
  row_read [] r e h = absurd (true≢false (sym e))
  row_read (l ∷ ls) r e h =
      ap (map_ok Some) (h ∙ ap (λ cs. map_ok (λ v. row_of (by_place v)) (read_row table line columns cs)) (texts_placed at (cells l)))
      ∙ map_some (λ v. row_of (by_place v)) (read_row table line columns (cells l))

  pub moved : (ls : List (List ℕ)) → is_some_left (placed at (first_cells ls)) ≡ true → record { left = others ls; line = line + 1; columns = columns } ≡ line_less (record { left = ls; line = line; columns = columns })
  moved [] e = absurd (true≢false (sym e))
  moved (l ∷ ls) e = refl
