-- A sheet that was tested whole, used row by row: the rows that are left.
use Rattle.std.proofs.Common.{◌≡◌, ℕ, ◌+◌, List, [], ◌∷◌, Some, None, Ok, Err, Result, sym, refl, ap, ◌∙◌}
use Rattle.cells.specs.Cells.{cells}
use Rattle.cells.specs.Left.{first_cells, others}
use Rattle.sheet_kinds.specs.Tables.{Table}
use Rattle.sheet_kinds.specs.declared.fault.RowFault.{RowFault}
use Rattle.sheet_kinds.specs.declared.fault.SheetFault.TheVariants.{Row}
use Rattle.sheet_kinds.specs.declared.fault.SheetFault.{SheetFault}
use Rattle.sheets.proofs.Small.{row_small}
use Rattle.sheets.proofs.Walks.{ok_same, rows_left, none_left, faulted, handed}
use Rattle.sheets.specs.Rows.{map_ok, by_place}
use Rattle.sheets.specs.Sheets.{and_then, names_columns, from_lines, rows_from, sheet_lines, sheet_rows}
use Rattle.sheets.specs.Small.{Small}
use Rattle.sheets.specs.States.{Standing, next_row, line_less}

-- vs are the rows that s has not yet handed out
abbrev pub Left : Table → Standing → List (List ℕ) → Type 0
Left table s vs = rows_left table s ≡ Ok vs

module _ (table : Table) (bs : List ℕ) (rows : List (List ℕ)) (good : sheet_rows table bs ≡ Ok rows) where
  -- a tested sheet passes its tests again
  pub never_refused : {A : Type 0} (e : SheetFault) → Err e ≡ sheet_lines table.number bs → A
  never_refused e h = let z : Ok rows ≡ Err e = sym good ∙ ap (λ r. and_then r (from_lines table)) (sym h) in cc

  module _ (ls : List (List ℕ)) (begun : Ok ls ≡ sheet_lines table.number bs) where
    named_rows : and_then (names_columns table (first_cells ls)) (λ columns. rows_from table columns 2 (others ls)) ≡ Ok rows
    named_rows = ap (λ r. and_then r (from_lines table)) begun ∙ good

    pub never_misnamed : {A : Type 0} (e : SheetFault) → Err e ≡ names_columns table (first_cells ls) → A
    never_misnamed e h = let z : Ok rows ≡ Err e = sym named_rows ∙ ap (λ r. and_then r (λ columns. rows_from table columns 2 (others ls))) (sym h) in cc

    -- all its rows are left once its names are accepted
    pub all_left : (columns : List ℕ) (s : Standing) → Ok columns ≡ names_columns table (first_cells ls) → s ≡ record { left = others ls; line = 2; columns = columns } → Left table s rows
    all_left columns s h e = ap (rows_left table) e ∙ ap (λ r. and_then r (λ columns. rows_from table columns 2 (others ls))) h ∙ named_rows

-- the row handed out is the first of those that were left
pub record OneLess {R : Type 0} (table : Table) (row_of : (ℕ → ℕ) → R) (s : Standing) (vs : List (List ℕ)) (row : R) : Type 0 where
  pub values : List ℕ
  pub rest : List (List ℕ)
  pub were : vs ≡ values ∷ rest
  pub is : row ≡ row_of (by_place values)
  pub left : Left table (line_less s) rest
  pub small : Small values
  pub line : (line_less s).line ≡ s.line + 1

after_one : (v : List ℕ) (vs : List (List ℕ)) (r : Result (List (List ℕ)) SheetFault) → Ok vs ≡ map_ok (λ us. v ∷ us) r → (us : List (List ℕ)) × (vs ≡ v ∷ us) × (r ≡ Ok us)
after_one v vs (Ok us) e = (us, ok_same e, refl)
after_one v vs (Err f) e = cc

module _ {R : Type 0} (table : Table) (row_of : (ℕ → ℕ) → R) (s : Standing) (vs : List (List ℕ)) (o : Left table s vs) where
  pub all_handed : Ok None ≡ next_row table row_of s → vs ≡ []
  all_handed e = ok_same (sym o ∙ none_left table row_of s e)

  pub never_faulted : {A : Type 0} (e : RowFault) → Err e ≡ next_row table row_of s → A
  never_faulted e h = let z : Ok vs ≡ Err (Row e) = sym o ∙ faulted table row_of s e h in cc

  pub one_less : (row : R) → Ok (Some row) ≡ next_row table row_of s → OneLess table row_of s vs row
  one_less row h =
      let k = handed table row_of s row h in
      let p = after_one k.values vs (rows_left table (line_less s)) (sym o ∙ k.rest) in
      record {
        values = k.values;
        rest = p.0;
        were = p.1;
        is = k.is;
        left = p.2;
        small = row_small table s.line s.columns (cells k.line_of) k.values k.read;
        line = k.on;
      }
