-- Written text cut into its lines and cells again, and written digits read again.
use Rattle.std.proofs.Common.{◌≡◌, ℕ, zero, suc, ◌+◌, ◌-◌, ◌*◌, ◌^◌, ◌<◌, ◌≤◌, true, false, ◌&&◌, eqb, ltb, leb, List, [], ◌∷◌, ◌++◌, map, length, get_or, Some, None, decimal, refl, ap, ◌∙◌, ⊎_elim, arith}
use Rattle.cells.specs.Cells.{cells, lines, comma, line_feed}
use Rattle.cells.specs.Numbers.{number, meaning, digits_after, most_number}
use Rattle.sheet_kinds.specs.Tables.{plain_name, plain_names}
use Rattle.sheets.specs.Written.{after_first, with_commas}
use Rattle.std.proofs.lemmas.Fmt.{digits_decimal, digits_value-decimal, length-decimal-le, decimal_nonempty, first_decimal}
use Rattle.std.proofs.lemmas.List.{append-nil}
use Rattle.std.proofs.lemmas.Str.Parse.{IsNumeralModel, numerals_by_fold}
use Rattle.std.proofs.lemmas.Bool.Decides.{nat_tests}
use Rattle.std.proofs.lemmas.Bool.{cond-true, cases_lt, and_parts, and_from, le-leb, leb-true}
use Rattle.std.specs.Int.{IsInRange}
use Rattle.std.specs.List.{AllByRecursion as All}

-- bytes that are neither a comma nor a line feed, nor the first of the mark
abbrev pub Clean : List ℕ → Type 0
Clean c = All (λ b. (44 < b) × (b < 239)) c

-- no line feed
abbrev pub Unbroken : List ℕ → Type 0
Unbroken l = All (λ b. 10 < b) l

-- what holds of each element of two lists holds of each of both together
both_all : (P : ℕ → Type 0) (xs ys : List ℕ) → All P xs → All P ys → All P (xs ++ ys)
both_all P [] ys h k = k
both_all P (x ∷ xs) ys h k = (h.0, both_all P xs ys h.1 k)

pub line_cut : (l rest : List ℕ) → Unbroken l → lines (l ++ line_feed ∷ rest) ≡ l ∷ lines rest
line_cut [] rest h = refl
line_cut (b ∷ bs) rest h = let low = h.0 in let r = line_cut bs rest h.1 in grind (arith, nat_tests)

cell_cut : (c rest : List ℕ) → Clean c → cells (c ++ comma ∷ rest) ≡ c ∷ cells rest
cell_cut [] rest h = refl
cell_cut (b ∷ bs) rest h = let low = h.0.0 in let r = cell_cut bs rest h.1 in grind (arith, nat_tests)

one_cell : (c : List ℕ) → Clean c → cells c ≡ c ∷ []
one_cell [] h = refl
one_cell (b ∷ bs) h = let low = h.0.0 in let r = one_cell bs h.1 in grind (arith, nat_tests)

first_and_rest : (c : List ℕ) (cs : List (List ℕ)) → Clean c → All Clean cs → cells (c ++ after_first cs) ≡ c ∷ cs
first_and_rest c [] h hs = ap cells (append-nil c) ∙ one_cell c h
first_and_rest c (d ∷ ds) h hs = cell_cut c (d ++ after_first ds) h ∙ ap (λ l. c ∷ l) (first_and_rest d ds hs.0 hs.1)

-- the cells of a written line are those that were written
pub cells_back : (cs : List (List ℕ)) → 0 < length cs → All Clean cs → cells (with_commas cs) ≡ cs
cells_back [] some h = absurd (omega arith)
cells_back (c ∷ cs) some h = first_and_rest c cs h.0 h.1

clean_unbroken : (c : List ℕ) → Clean c → Unbroken c
clean_unbroken [] h = tt
clean_unbroken (b ∷ bs) h = (omega (arith, h.0.0), clean_unbroken bs h.1)

rest_unbroken : (cs : List (List ℕ)) → All Clean cs → Unbroken (after_first cs)
rest_unbroken [] h = tt
rest_unbroken (c ∷ cs) h = (omega arith, both_all (λ b. 10 < b) c (after_first cs) (clean_unbroken c h.0) (rest_unbroken cs h.1))

pub unbroken : (cs : List (List ℕ)) → All Clean cs → Unbroken (with_commas cs)
unbroken [] h = tt
unbroken (c ∷ cs) h = both_all (λ b. 10 < b) c (after_first cs) (clean_unbroken c h.0) (rest_unbroken cs h.1)

pub all_clean : (f : ℕ → List ℕ) → ((k : ℕ) → Clean (f k)) → (ks : List ℕ) → All Clean (map f ks)
all_clean f h [] = tt
all_clean f h (k ∷ ks) = (h k, all_clean f h ks)

-- a line of clean cells does not start with the mark's first byte
empty_first : (cs : List (List ℕ)) (rest : List ℕ) → get_or ((after_first cs ++ line_feed ∷ []) ++ rest) 0 0 ≡ 239 → ⊥
empty_first [] rest e = omega arith
empty_first (c ∷ cs) rest e = omega arith

some_first : (c : List ℕ) (cs : List (List ℕ)) (rest : List ℕ) → Clean c → get_or (((c ++ after_first cs) ++ line_feed ∷ []) ++ rest) 0 0 ≡ 239 → ⊥
some_first [] cs rest h e = empty_first cs rest e
some_first (b ∷ bs) cs rest h e = omega (arith, h.0.1, e)

pub unmarked : (cs : List (List ℕ)) (rest : List ℕ) → All Clean cs → get_or ((with_commas cs ++ line_feed ∷ []) ++ rest) 0 0 ≡ 239 → ⊥
unmarked [] rest h e = omega arith
unmarked (c ∷ cs) rest h e = some_first c cs rest h.0 e

plain_clean : (c : List ℕ) → plain_name c ≡ true → Clean c
plain_clean [] h = tt
plain_clean (b ∷ bs) h =
    let p = and_parts (leb 48 b && leb b 122) (plain_name bs) h in
    let q = and_parts (leb 48 b) (leb b 122) p.0 in
    ((omega (arith, leb-true 48 b q.0), omega (arith, leb-true b 122 q.1)), plain_clean bs p.1)

pub name_clean : (names : List (List ℕ)) → plain_names names ≡ true → (k : ℕ) → Clean (get_or names k [])
name_clean [] h k = tt
name_clean (n ∷ ns) h zero = plain_clean n (and_parts (plain_name n) (plain_names ns) h).0
name_clean (n ∷ ns) h (suc k) = name_clean ns (and_parts (plain_name n) (plain_names ns) h).1 k

-- the number that digits write after v, where all are digits
abbrev read_on : ℕ → List ℕ → ℕ
read_on v [] = v
read_on v (b ∷ bs) = read_on (v * 10 + (b - 48)) bs

own : IsNumeralModel (All (IsInRange 48 57)) (read_on 0)
own = numerals_by_fold (All (IsInRange 48 57)) (record { empty = tt; parts = λ c cs h. h; more = λ c cs a b. (a, b) }) read_on (record { empty = λ n. refl; more = λ n c cs i. refl })

digits_clean : (c : List ℕ) → All (IsInRange 48 57) c → Clean c
digits_clean [] h = tt
digits_clean (b ∷ bs) h = ((omega (arith, h.0.0), omega (arith, h.0.1)), digits_clean bs h.1)

digits_read : (v : ℕ) (c : List ℕ) → All (IsInRange 48 57) c → digits_after v c ≡ Some (read_on v c)
digits_read v [] h = refl
digits_read v (b ∷ bs) h = cond-true _ _ None (and_from _ _ (le-leb 48 b h.0.0) (le-leb b 57 h.0.1)) ∙ digits_read (v * 10 + (b - 48)) bs h.1

module _ (n : ℕ) (small : n ≤ most_number) where
  fits : n < 2 ^ 64
  fits = omega arith

  pub decimal_clean : Clean (decimal n)
  decimal_clean = digits_clean (decimal n) (digits_decimal own n fits)

  no_zero : (eqb (get_or (decimal n) 0 0) 48 && ltb 1 (length (decimal n))) ≡ false
  no_zero =
      ⊎_elim
      (λ zero-only. let short = length-decimal-le 1 n (omega arith) (omega arith) fits in grind (arith, nat_tests))
      (λ more. let first = first_decimal n (omega arith) fits in grind (arith, nat_tests))
      (cases_lt n 1)

  -- the digits of a number mean that number
  pub means_back : meaning (decimal n) ≡ number n
  means_back =
      let some = decimal_nonempty n fits in
      let few = length-decimal-le 10 n (omega arith) (omega arith) fits in
      let zero = no_zero in
      let read : digits_after 0 (decimal n) ≡ Some n = digits_read 0 (decimal n) (digits_decimal own n fits) ∙ ap Some (digits_value-decimal own n fits) in
      grind (arith, nat_tests)
