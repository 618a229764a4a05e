-- Every value of a row has ten digits at most.
use Rattle.std.proofs.Common.{◌≡◌, ℕ, zero, suc, ◌+◌, ◌≤◌, Bool, eqb, List, [], ◌∷◌, length, get_or, set, replicate, IfOk, Some, None, Ok, Err, Option, Result, refl, subst, arith}
use Rattle.cells.proofs.Small.{number_small}
use Rattle.cells.specs.Cells.{cells}
use Rattle.cells.specs.Left.{first_cells, others}
use Rattle.cells.specs.Numbers.{meaning, number_or_other, number_of, most_number}
use Rattle.sheet_kinds.specs.Tables.{Table}
use Rattle.sheet_kinds.specs.declared.fault.CellFault.{CellFault}
use Rattle.sheet_kinds.specs.declared.fault.RowFault.{RowFault}
use Rattle.sheet_kinds.specs.declared.fault.SheetFault.{SheetFault}
use Rattle.sheet_kinds.specs.declared.fault.Spot.{Spot}
use Rattle.sheets.proofs.Walks.{ok_same}
use Rattle.sheets.specs.Rows.{value_of, and_cell, read_cells, read_row, map_ok}
use Rattle.sheets.specs.Sheets.{and_row, and_then, rows_from, from_lines, names_columns, sheet_lines, sheet_rows}
use Rattle.sheets.specs.Small.{Small, SmallRows}
use Rattle.std.proofs.lemmas.Bool.Decides.{nat_tests}
use Rattle.std.proofs.lemmas.Bool.{cond_both}

or_small : (may : Bool) (spot : Spot) (v : ℕ) (o : Option ℕ) → ((n : ℕ) → o ≡ Some n → n ≤ most_number) → value_of (number_or_other o) may spot ≡ Ok v → v ≤ most_number
or_small may spot v None k e = cc
or_small may spot v (Some n) k e = let same : n ≡ v = cc in omega (arith, k n refl)

value_small : (bs : List ℕ) (may : Bool) (spot : Spot) (v : ℕ) → value_of (meaning bs) may spot ≡ Ok v → v ≤ most_number
value_small bs may spot v e = let k = or_small may spot v (number_of bs) (number_small bs) in grind (arith, nat_tests)

set_small : (xs : List ℕ) (k v : ℕ) → Small xs → v ≤ most_number → Small (set xs k v)
set_small [] k v h l = h
set_small (x ∷ xs) zero v h l = (l, h.1)
set_small (x ∷ xs) (suc k) v h l = (h.0, set_small xs k v h.1 l)

zeros_small : (n : ℕ) → Small (replicate n 0)
zeros_small zero = tt
zeros_small (suc n) = (omega arith, zeros_small n)

and_small : (r : Result ℕ CellFault) (k : ℕ → Result (List ℕ) RowFault) (vs : List ℕ) → ((v : ℕ) → r ≡ Ok v → k v ≡ Ok vs → Small vs) → and_cell r k ≡ Ok vs → Small vs
and_small (Ok v) k vs h e = h v refl e
and_small (Err f) k vs h e = cc

cells_small : (table : Table) (line : ℕ) (ks : List ℕ) (i : ℕ) (cs : List (List ℕ)) (acc vs : List ℕ) → Small acc → read_cells table line ks i cs acc ≡ Ok vs → Small vs
cells_small table line [] i cs acc vs h e = subst Small (ok_same e) h
cells_small table line (k ∷ ks) i [] acc vs h e = subst Small (ok_same e) h
cells_small table line (k ∷ ks) i (c ∷ cs) acc vs h e =
    and_small (value_of (meaning c) (table.optional k) (record { sheet = table.number; line = line; cell = i })) _ vs
    (λ v r q. cells_small table line ks (i + 1) cs (set acc k v) vs (set_small acc k v h (value_small c (table.optional k) _ v r)) q)
    e

pub row_small : (table : Table) (line : ℕ) (columns : List ℕ) (cells : List (List ℕ)) (vs : List ℕ) → read_row table line columns cells ≡ Ok vs → Small vs
row_small table line columns cells vs =
    cond_both (eqb (length cells) (length columns)) _ _ (λ r. r ≡ Ok vs → Small vs)
    (λ t e. cells_small table line columns 1 cells (replicate (length columns) 0) vs (zeros_small (length columns)) e)
    (λ f e. cc)

-- one value, by the place of its name
pub at_small : (vs : List ℕ) (k : ℕ) → Small vs → get_or vs k 0 ≤ most_number
at_small [] k h = omega arith
at_small (v ∷ vs) zero h = h.0
at_small (v ∷ vs) (suc k) h = at_small vs k h.1

after_row : (v : List ℕ) (r : Result (List (List ℕ)) SheetFault) → Small v → IfOk r SmallRows → IfOk (map_ok (λ vs. v ∷ vs) r) SmallRows
after_row v (Ok vs) s h = (s, h)
after_row v (Err e) s h = tt

with_row : (r : Result (List ℕ) RowFault) (k : List ℕ → Result (List (List ℕ)) SheetFault) → ((v : List ℕ) → r ≡ Ok v → IfOk (k v) SmallRows) → IfOk (and_row r k) SmallRows
with_row (Ok v) k h = h v refl
with_row (Err e) k h = tt

rows_small : (table : Table) (columns : List ℕ) (line : ℕ) (ls : List (List ℕ)) → IfOk (rows_from table columns line ls) SmallRows
rows_small table columns line [] = tt
rows_small table columns line (l ∷ ls) =
    with_row (read_row table line columns (cells l)) _ (λ v e. after_row v (rows_from table columns (line + 1) ls) (row_small table line columns (cells l) v e) (rows_small table columns (line + 1) ls))

then_small : {X : Type 0} (r : Result X SheetFault) (k : X → Result (List (List ℕ)) SheetFault) → ((x : X) → IfOk (k x) SmallRows) → IfOk (and_then r k) SmallRows
then_small (Ok x) k h = h x
then_small (Err e) k h = tt

pub sheet_small : (table : Table) (bs : List ℕ) → IfOk (sheet_rows table bs) SmallRows
sheet_small table bs =
    then_small (sheet_lines table.number bs) (from_lines table) (λ ls. then_small (names_columns table (first_cells ls)) _ (λ columns. rows_small table columns 2 (others ls)))
