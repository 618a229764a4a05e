-- The values of a row, one cell after another.
use Rattle.std.proofs.Common.{◌≡◌, ℕ, zero, suc, ◌+◌, ◌<◌, ◌≤◌, ◌≢◌, List, [], ◌∷◌, length, get_or, take, drop, set, replicate, Ok, Err, Result, sym, refl, ap, ◌∙◌, subst, ⊎_elim, arith, length-set}
use Rattle.cells.specs.Numbers.{meaning}
use Rattle.sheet_kinds.specs.Tables.{Table}
use Rattle.sheet_kinds.specs.declared.fault.CellFault.{CellFault}
use Rattle.sheets.specs.Rows.{value_of, read_cells, read_row, and_cell, map_ok, by_place}
use Rattle.sheets.specs.Values.{put_value}
use Rattle.sheets.specs.declared.values.RowValues.{RowValues}
use Rattle.std.proofs.lemmas.List.{drop_more, drop_all, get_or-take, get_or_past, get_or-set_other, length-take-le}
use Rattle.std.proofs.lemmas.Bool.{cond-true, cases_lt, eq-eqb}

take_set_in : (n : ℕ) (xs : List ℕ) (k v : ℕ) → take n (set xs k v) ≡ set (take n xs) k v
take_set_in zero xs k v = refl
take_set_in (suc n) [] k v = refl
take_set_in (suc n) (x ∷ xs) zero v = refl
take_set_in (suc n) (x ∷ xs) (suc k) v = ap (λ l. x ∷ l) (take_set_in n xs k v)

-- i cells of all are read into vs, and ps are left
pub record Reading (table : Table) (line : ℕ) (columns : List ℕ) (all ps : List (List ℕ)) (n i : ℕ) (vs : RowValues) : Type 0 where
  pub room : length vs.at ≡ 8
  pub zeros : (k : ℕ) → n ≤ k → get_or vs.at k 0 ≡ 0
  pub left : i + length ps ≡ length all
  pub same : and_cell vs.first (λ _. read_cells table line (drop i columns) (i + 1) ps (take n vs.at)) ≡ read_cells table line columns 1 all (replicate n 0)

zero_anywhere : (n k : ℕ) → get_or {A = ℕ} (replicate n 0) k 0 ≡ 0
zero_anywhere zero k = refl
zero_anywhere (suc n) zero = refl
zero_anywhere (suc n) (suc k) = zero_anywhere n k

module _ (table : Table) (line : ℕ) (columns : List ℕ) (all : List (List ℕ)) (n : ℕ) (long : length columns ≡ n) (few : n ≤ 8) where
  counted : length all ≡ n → read_row table line columns all ≡ read_cells table line columns 1 all (replicate n 0)
  counted h = cond-true _ _ _ (eq-eqb _ _ (h ∙ sym long)) ∙ ap (λ k. read_cells table line columns 1 all (replicate k 0)) long

  module _ {ps : List (List ℕ)} {i : ℕ} {vs : RowValues} (o : Reading table line columns all ps n i vs) where
    finished : ps ≡ [] → i ≡ n → read_row table line columns all ≡ and_cell vs.first (λ _. Ok (take n vs.at))
    finished e h =
        counted (omega (arith, o.left, ap length e, h))
        ∙ sym o.same
        ∙ ap (λ ks. and_cell vs.first (λ _. read_cells table line ks (i + 1) ps (take n vs.at))) (drop_all i columns (omega (arith, long, h)))

    pub done : {R : Type 0} (row_of : (ℕ → ℕ) → R) → ps ≡ [] → i ≡ n → vs.first ≡ Ok tt → Ok (row_of (λ k. get_or vs.at k 0)) ≡ map_ok (λ v. row_of (by_place v)) (read_row table line columns all)
    done row_of e h k =
        let values : (λ j. get_or vs.at j 0) ≡ by_place (take n vs.at) =
        λ t j. (⊎_elim
        (λ low. sym (get_or-take n vs.at j 0 low))
        (λ high. o.zeros j high ∙ sym (get_or_past (take n vs.at) j 0 (omega (arith, length-take-le n vs.at (omega (arith, o.room, few)), high))))
        (cases_lt j n)) t in
        ap (λ f. Ok (row_of f)) values ∙ sym (ap (map_ok (λ v. row_of (by_place v))) (finished e h ∙ ap (λ r. and_cell r (λ _. Ok (take n vs.at))) k))

    module _ (c : List ℕ) (qs : List (List ℕ)) (were : ps ≡ c ∷ qs) (more : i < n) (low : get_or columns i 0 < n) where
      abbrev k : ℕ
      k = get_or columns i 0

      turned : read_cells table line (drop i columns) (i + 1) ps (take n vs.at) ≡ and_cell (value_of (meaning c) (table.optional (get_or columns i 0)) (record { sheet = table.number; line = line; cell = i + 1 })) (λ v. read_cells table line (drop (i + 1) columns) (i + 1 + 1) qs (set (take n vs.at) (get_or columns i 0) v))
      turned =
          ap (λ ks. read_cells table line ks (i + 1) ps (take n vs.at)) (drop_more columns i 0 (omega (arith, long)))
          ∙ ap (λ cs. read_cells table line (get_or columns i 0 ∷ drop (i + 1) columns) (i + 1) cs (take n vs.at)) were

      went : (r : Result ℕ CellFault) (first : Result (Unit {0}) CellFault) →
          and_cell first (λ _. and_cell r (λ v. read_cells table line (drop (i + 1) columns) (i + 1 + 1) qs (set (take n vs.at) (get_or columns i 0) v)))
          ≡ and_cell (put_value (record { at = vs.at; first = first }) (get_or columns i 0) r).first (λ _. read_cells table line (drop (i + 1) columns) (i + 1 + 1) qs (take n (put_value (record { at = vs.at; first = first }) (get_or columns i 0) r).at))
      went (Ok v) (Ok u) = ap (read_cells table line (drop (i + 1) columns) (i + 1 + 1) qs) (sym (take_set_in n vs.at (get_or columns i 0) v))
      went (Ok v) (Err f) = refl
      went (Err e) (Ok u) = refl
      went (Err e) (Err f) = refl

      puts : (r : Result ℕ CellFault) → (length (put_value vs (get_or columns i 0) r).at ≡ 8) × ((j : ℕ) → n ≤ j → get_or (put_value vs (get_or columns i 0) r).at j 0 ≡ 0)
      puts (Ok v) = (length-set vs.at (get_or columns i 0) v ∙ o.room, λ j h. let ne : j ≢ get_or columns i 0 = omega (arith, low, h) in get_or-set_other vs.at (get_or columns i 0) j v 0 ne ∙ o.zeros j h)
      puts (Err e) = (o.room, o.zeros)

      pub step : (r : Result ℕ CellFault) (ws : RowValues) → r ≡ value_of (meaning c) (table.optional (get_or columns i 0)) (record { sheet = table.number; line = line; cell = i + 1 }) → ws ≡ put_value vs (get_or columns i 0) r → Reading table line columns all qs n (i + 1) ws
      step r ws e p =
          let q = puts r in
          subst (Reading table line columns all qs n (i + 1)) (sym p) (record {
            room = q.0;
            zeros = q.1;
            left = omega (arith, o.left, ap length were);
            same = sym (went r vs.first)
                ∙ ap (λ x. and_cell vs.first (λ _. and_cell x (λ v. read_cells table line (drop (i + 1) columns) (i + 1 + 1) qs (set (take n vs.at) (get_or columns i 0) v)))) e
                ∙ sym (ap (λ x. and_cell vs.first (λ _. x)) turned)
                ∙ o.same;
          })
