-- A written sheet reads back as the rows that were written.
use Rattle.std.proofs.Common.{◌≡◌, ℕ, ◌+◌, ◌-◌, ◌<◌, ◌≤◌, Bool, true, false, List, [], ◌∷◌, ◌++◌, length, get_or, drop, set, replicate, Some, Ok, decimal, All, sym, refl, ap, ◌∙◌, arith}
use Rattle.cells.specs.Cells.{cells, lines, line_feed}
use Rattle.sheet_kinds.specs.Tables.{Table, apart, plain_names}
use Rattle.sheets.proofs.Orders.{any_order}
use Rattle.sheets.proofs.Places.{put_at, row_back}
use Rattle.sheets.proofs.Small.{at_small}
use Rattle.sheets.proofs.Writing.{Clean, line_cut, cells_back, unbroken, all_clean, unmarked, name_clean, decimal_clean, means_back}
use Rattle.sheets.specs.Columns.{columns_of}
use Rattle.sheets.specs.Names.{EachOnce}
use Rattle.sheets.specs.Rows.{map_ok, value_of, and_cell, read_cells, read_row}
use Rattle.sheets.specs.Sheets.{most_bytes, mark_len, opening, and_then, and_row, or_names, rows_from, from_lines, sheet_rows}
use Rattle.sheets.specs.Small.{Small, SmallRows}
use Rattle.sheets.specs.Written.{with_commas, line_of, names_in, digits_in, written_rows, written, EachPlace, ReadsBack}
use Rattle.std.proofs.lemmas.List.{append-nil, append_assoc, get_or_push, get_or-map, length-map, length_push}
use Rattle.std.proofs.lemmas.Bool.{cond-true, cond-false, and_left, eq-eqb, ne_eqb, le-ltb}
use Rattle.std.proofs.lemmas.List.Elements.{All-head, All-tail}
use Rattle.std.specs.List.{AllByRecursion}

-- written cells, read into values
read_put : (table : Table) (line : ℕ) (row : List ℕ) → Small row → (ks : List ℕ) (i : ℕ) (values : List ℕ) → read_cells table line ks i (digits_in row ks) values ≡ Ok (put_at row ks values)
read_put table line row small [] i values = refl
read_put table line row small (k ∷ ks) i values =
    ap (λ m. and_cell (value_of m (table.optional k) (record { sheet = table.number; line = line; cell = i })) (λ v. read_cells table line ks (i + 1) (digits_in row ks) (set values k v))) (means_back (get_or row k 0) (at_small row k small))
    ∙ read_put table line row small ks (i + 1) (set values k (get_or row k 0))

-- the last byte is a line feed
abbrev Ended : List ℕ → Type 0
Ended bs = get_or bs (length bs - 1) 0 ≡ line_feed

rows_ended : (columns p : List ℕ) (rows : List (List ℕ)) → Ended ((p ++ line_feed ∷ []) ++ written_rows columns rows)
rows_ended columns p [] =
    ap (λ l. get_or l (length l - 1) 0) (append-nil (p ++ line_feed ∷ [])) ∙ get_or_push p line_feed 0 (length (p ++ line_feed ∷ []) - 1) (omega (arith, length_push p line_feed))
rows_ended columns p (row ∷ rows) =
    let l : List ℕ = with_commas (digits_in row columns) in
    let rest : List ℕ = written_rows columns rows in
    let same : ((((p ++ line_feed ∷ []) ++ l) ++ line_feed ∷ []) ++ rest) ≡ ((p ++ line_feed ∷ []) ++ ((l ++ line_feed ∷ []) ++ rest)) = simp append_assoc in
    ap (λ x. get_or x (length x - 1) 0) (sym same) ∙ rows_ended columns ((p ++ line_feed ∷ []) ++ l) rows

lines_back : (cs : List (List ℕ)) (rest : List ℕ) → AllByRecursion Clean cs → lines (line_of cs ++ rest) ≡ with_commas cs ∷ lines rest
lines_back cs rest h = ap lines (append_assoc (with_commas cs) (line_feed ∷ []) rest) ∙ line_cut (with_commas cs) rest (unbroken cs h)

module _ (table : Table) (columns : List ℕ) (some : 0 < length table.names) (places : EachPlace (length table.names) columns) where
  digits_clean : (row : List ℕ) → Small row → AllByRecursion Clean (digits_in row columns)
  digits_clean row small = all_clean (λ k. decimal (get_or row k 0)) (λ k. decimal_clean (get_or row k 0) (at_small row k small)) columns

  line_back : (line : ℕ) (row : List ℕ) → length row ≡ length table.names → Small row → read_row table line columns (cells (with_commas (digits_in row columns))) ≡ Ok row
  line_back line row full small =
      let many = length-map columns (λ k. decimal (get_or row k 0)) in
      ap (read_row table line columns) (cells_back (digits_in row columns) (omega (arith, many, places.as_many)) (digits_clean row small))
      ∙ cond-true _ _ _ (eq-eqb _ _ many)
      ∙ read_put table line row small columns 1 (replicate (length columns) 0)
      ∙ ap Ok (row_back (length table.names) columns row places full)

  rows_back : (line : ℕ) (rows : List (List ℕ)) → All (λ row. length row ≡ length table.names) rows → SmallRows rows → rows_from table columns line (lines (written_rows columns rows)) ≡ Ok rows
  rows_back line [] full small = refl
  rows_back line (row ∷ rows) full small =
      ap (rows_from table columns line) (lines_back (digits_in row columns) (written_rows columns rows) (digits_clean row small.0))
      ∙ ap (λ r. and_row r (λ v. map_ok (λ vs. v ∷ vs) (rows_from table columns (line + 1) (lines (written_rows columns rows))))) (line_back line row (All-head (λ r. length r ≡ length table.names) row rows full) small.0)
      ∙ ap (map_ok (λ vs. row ∷ vs)) (rows_back (line + 1) rows (All-tail (λ r. length r ≡ length table.names) row rows full) small.1)

  named : EachOnce table.names (names_in table.names columns) columns
  named =
      let many = length-map columns (λ k. get_or table.names k []) in
      let as_many = places.as_many in
      record {
        as_many = many ∙ as_many;
        listed = sym many;
        inside = λ i h. places.inside i (omega (arith, h, many, as_many));
        named = λ i h. sym (get_or-map (λ k. get_or table.names k []) columns i 0 [] (omega (arith, h, many)));
        once = λ i j l h. places.once i j l (omega (arith, h, many, as_many));
      }

  module _ (no-twice : apart table.names ≡ true) (plain : plain_names table.names ≡ true) where
    names_clean : AllByRecursion Clean (names_in table.names columns)
    names_clean = all_clean (λ k. get_or table.names k []) (name_clean table.names plain) columns

    names_back : columns_of table.names (cells (with_commas (names_in table.names columns))) ≡ Some columns
    names_back =
        let many = length-map columns (λ k. get_or table.names k []) in
        ap (columns_of table.names) (cells_back (names_in table.names columns) (omega (arith, many, some, places.as_many)) names_clean)
        ∙ (any_order table.names no-twice (names_in table.names columns) columns).1 named

    -- where the names start in the written bytes, and what stands there
    start_back : (marked : Bool) (rows : List (List ℕ)) → drop (mark_len (written marked table columns rows)) (written marked table columns rows) ≡ line_of (names_in table.names columns) ++ written_rows columns rows
    start_back true rows = refl
    start_back false rows =
        ap (λ n. drop n (line_of (names_in table.names columns) ++ written_rows columns rows))
        (cond-false _ 3 0 (and_left _ _ (ne_eqb _ 239 (unmarked (names_in table.names columns) (written_rows columns rows) names_clean))))

    written_ended : (marked : Bool) (rows : List (List ℕ)) → Ended (written marked table columns rows)
    written_ended true rows = rows_ended columns (239 ∷ 187 ∷ 191 ∷ with_commas (names_in table.names columns)) rows
    written_ended false rows = rows_ended columns (with_commas (names_in table.names columns)) rows

    sheet_back : (marked : Bool) (rows : List (List ℕ)) → All (λ row. length row ≡ length table.names) rows → SmallRows rows → length (written marked table columns rows) ≤ most_bytes → sheet_rows table (written marked table columns rows) ≡ Ok rows
    sheet_back marked rows full small short =
        let bs : List ℕ = written marked table columns rows in
        let opened : opening table.number bs ≡ Ok (mark_len bs) =
        cond-false _ _ _ (le-ltb most_bytes (length bs) short) ∙ cond-true _ _ _ (eq-eqb _ _ (written_ended marked rows)) in
        ap (λ r. and_then (map_ok (λ at. lines (drop at bs)) r) (from_lines table)) opened
        ∙ ap (λ l. from_lines table (lines l)) (start_back marked rows)
        ∙ ap (from_lines table) (lines_back (names_in table.names columns) (written_rows columns rows) names_clean)
        ∙ ap (λ o. and_then (or_names table.number o) (λ ks. rows_from table ks 2 (lines (written_rows columns rows)))) names_back
        ∙ rows_back 2 rows full small

pub reads_back : (table : Table) → apart table.names ≡ true → plain_names table.names ≡ true → ReadsBack table
reads_back table no-twice plain marked columns rows some places = sheet_back table columns some places no-twice plain marked rows
