-- The rows that are added up, one after another.
use Rattle.std.proofs.Common.{◌≡◌, ℕ, ◌+◌, ◌-◌, ◌%◌, ◌^◌, ◌≤◌, List, ◌∷◌, length, Ok, Err, Result, sym, refl, ap, ◌∙◌, arith}
use Rattle.reading_speed.specs.Totals.{row_sum, rows_sum, total_of}
use Rattle.reading_speed.specs.declared.total.Total.{Total}
use Rattle.sheet_kinds.specs.Tables.{readings}
use Rattle.sheet_kinds.specs.declared.readings.ReadingNumbers.{ReadingNumbers}
use Rattle.sheets.proofs.Walks.{rows_left, Handed}
use Rattle.sheets.specs.Rows.{map_ok}
use Rattle.sheets.specs.Sheets.{sheet_rows}
use Rattle.sheets.specs.States.{Standing, line_less}

-- the total where the rows before a line add up to sum
abbrev pub total_with : ℕ → ℕ → List (List ℕ) → Total
total_with line sum vs = record { rows = line - 2 + length vs; sum = (sum + rows_sum vs) % 2 ^ 64 }

-- the rows before s add up to sum, and with those that are left to the total of the sheet
pub record Added (bs : List ℕ) (s : Standing) (sum : ℕ) : Type 0 where
  pub begun : 2 ≤ s.line
  pub rest : map_ok (total_with s.line sum) (rows_left readings s) ≡ map_ok total_of (sheet_rows readings bs)

-- a row of the code, from the values of a line
abbrev row_of : (ℕ → ℕ) → ReadingNumbers
row_of v = record { member = v 0; block = v 1; scheduled = v 2; metered = v 3; available = v 4 }

mapped_twice : {X Y Z E : Type 0} (f : Y → Z) (g : X → Y) (h : X → Z) → ((x : X) → f (g x) ≡ h x) → (r : Result X E) → map_ok f (map_ok g r) ≡ map_ok h r
mapped_twice f g h e (Ok x) = ap Ok (e x)
mapped_twice f g h e (Err y) = refl

same_map : {X Y E : Type 0} (f g : X → Y) → ((x : X) → f x ≡ g x) → (r : Result X E) → map_ok f r ≡ map_ok g r
same_map f g e (Ok x) = ap Ok (e x)
same_map f g e (Err y) = refl

-- before the first row
pub none_added : (bs : List ℕ) (s : Standing) → s.line ≡ 2 → rows_left readings s ≡ sheet_rows readings bs → Added bs s 0
none_added bs s two all = record {
  begun = omega (arith, two);
  rest = same_map (total_with s.line 0) total_of (λ vs. let r : s.line - 2 + length vs ≡ length vs = omega (arith, two) in let a : (0 + rows_sum vs) % 2 ^ 64 ≡ rows_sum vs % 2 ^ 64 = ap (λ n. n % 2 ^ 64) (omega arith) in λ t. record { rows = r t; sum = a t }) (rows_left readings s) ∙ ap (map_ok total_of) all;
}

-- one row more
pub one_added : (bs : List ℕ) (s : Standing) (sum : ℕ) (row : ReadingNumbers) → Handed readings row_of s row → Added bs s sum → Added bs (line_less s) ((sum + row.member + row.block + row.scheduled + row.metered + row.available) % 2 ^ 64)
one_added bs s sum row h o =
    let k = h.is in
    let now : (sum + row.member + row.block + row.scheduled + row.metered + row.available) % 2 ^ 64 ≡ (sum + row_sum h.values) % 2 ^ 64 =
    ap (λ n. n % 2 ^ 64) (omega (arith, ap (λ r. r.member) k, ap (λ r. r.block) k, ap (λ r. r.scheduled) k, ap (λ r. r.metered) k, ap (λ r. r.available) k)) in
    let low = o.begun in
    record {
      begun = omega (arith, h.on, low);
      rest = sym (mapped_twice (total_with s.line sum) (λ vs. h.values ∷ vs) (total_with (line_less s).line ((sum + row.member + row.block + row.scheduled + row.metered + row.available) % 2 ^ 64))
          (λ vs.
          let r : s.line - 2 + length (h.values ∷ vs) ≡ (line_less s).line - 2 + length vs = omega (arith, h.on, low) in
          let a : (sum + (row_sum h.values + rows_sum vs)) % 2 ^ 64 ≡ ((sum + row.member + row.block + row.scheduled + row.metered + row.available) % 2 ^ 64 + rows_sum vs) % 2 ^ 64 = omega (arith, now) in
          λ t. record { rows = r t; sum = a t })
          (rows_left readings (line_less s)))
          ∙ sym (ap (map_ok (total_with s.line sum)) h.rest)
          ∙ o.rest;
    }
