-- What the next row says of the rows that are left.
use Rattle.std.proofs.Common.{◌≡◌, ℕ, ◌+◌, ◌<◌, List, [], ◌∷◌, length, Some, None, Ok, Err, Result, refl, ap, arith}
use Rattle.cells.specs.Cells.{cells}
use Rattle.sheet_kinds.specs.Tables.{Table}
use Rattle.sheet_kinds.specs.declared.fault.RowFault.{RowFault}
use Rattle.sheet_kinds.specs.declared.fault.SheetFault.TheVariants.{Row}
use Rattle.sheet_kinds.specs.declared.fault.SheetFault.{SheetFault}
use Rattle.sheets.specs.Rows.{map_ok, read_row, by_place}
use Rattle.sheets.specs.Sheets.{and_row, rows_from}
use Rattle.sheets.specs.States.{Standing, next_row, line_less}

pub ok_same : {X E : Type 0} {x y : X} → ◌≡◌ {A = Result X E} (Ok x) (Ok y) → x ≡ y
ok_same h = cc

-- the rows that a sheet has left
abbrev pub rows_left : Table → Standing → Result (List (List ℕ)) SheetFault
rows_left table s = rows_from table s.columns s.line s.left

-- a row was handed out, with these values
pub record Handed {R : Type 0} (table : Table) (row_of : (ℕ → ℕ) → R) (s : Standing) (row : R) : Type 0 where
  pub values : List ℕ
  pub line_of : List ℕ
  pub read : read_row table s.line s.columns (cells line_of) ≡ Ok values
  pub is : row ≡ row_of (by_place values)
  pub rest : rows_left table s ≡ map_ok (λ vs. values ∷ vs) (rows_left table (line_less s))
  pub on : (line_less s).line ≡ s.line + 1
  pub less : length (line_less s).left < length s.left

module _ {R : Type 0} (table : Table) (row_of : (ℕ → ℕ) → R) (line : ℕ) (columns : List ℕ) where
  by_none : (ls : List (List ℕ)) (l : List ℕ) (r : Result (List ℕ) RowFault) → Ok None ≡ map_ok (λ v. Some (row_of (by_place v))) r → l ∷ ls ≡ []
  by_none ls l (Ok v) e = cc
  by_none ls l (Err f) e = cc

  none_of : (ls : List (List ℕ)) → Ok None ≡ next_row table row_of (record { left = ls; line = line; columns = columns }) → ls ≡ []
  none_of [] e = refl
  none_of (l ∷ ls) e = by_none ls l (read_row table line columns (cells l)) e

  by_err : (e : RowFault) (r : Result (List ℕ) RowFault) (k : List ℕ → Result (List (List ℕ)) SheetFault) → Err e ≡ map_ok (λ v. Some (row_of (by_place v))) r → and_row r k ≡ Err (Row e)
  by_err e (Ok v) k h = cc
  by_err e (Err f) k h = cc

  fault_of : (ls : List (List ℕ)) (e : RowFault) → Err e ≡ next_row table row_of (record { left = ls; line = line; columns = columns }) → rows_from table columns line ls ≡ Err (Row e)
  fault_of [] e h = cc
  fault_of (l ∷ ls) e h = by_err e (read_row table line columns (cells l)) _ h

  by_row : (row : R) (r : Result (List ℕ) RowFault) → Ok (Some row) ≡ map_ok (λ v. Some (row_of (by_place v))) r → (v : List ℕ) × (r ≡ Ok v) × (row ≡ row_of (by_place v))
  by_row row (Ok v) h = (v, refl, cc)
  by_row row (Err f) h = cc

  row_of_left : (ls : List (List ℕ)) (row : R) → Ok (Some row) ≡ next_row table row_of (record { left = ls; line = line; columns = columns }) → Handed table row_of (record { left = ls; line = line; columns = columns }) row
  row_of_left [] row h = cc
  row_of_left (l ∷ ls) row h =
      let p = by_row row (read_row table line columns (cells l)) h in
      record {
        values = p.0;
        line_of = l;
        read = p.1;
        is = p.2;
        rest = ap (λ r. and_row r (λ v. map_ok (λ vs. v ∷ vs) (rows_from table columns (line + 1) ls))) p.1;
        on = refl;
        less = omega arith;
      }

module _ {R : Type 0} (table : Table) (row_of : (ℕ → ℕ) → R) (s : Standing) where
  -- no line is left
  pub none_left : Ok None ≡ next_row table row_of s → rows_left table s ≡ Ok []
  none_left e = ap (rows_from table s.columns s.line) (none_of table row_of s.line s.columns s.left e)

  -- the next line has a fault
  pub faulted : (e : RowFault) → Err e ≡ next_row table row_of s → rows_left table s ≡ Err (Row e)
  faulted e h = fault_of table row_of s.line s.columns s.left e h

  -- the next line is a row
  pub handed : (row : R) → Ok (Some row) ≡ next_row table row_of s → Handed table row_of s row
  handed row h = row_of_left table row_of s.line s.columns s.left row h
