-- Places that stand once each: all of them are there, and a row's values put at them make the row.
use Rattle.std.proofs.Common.{◌≡◌, ℕ, zero, suc, ◌+◌, ◌<◌, ◌≤◌, Bool, true, false, cond, eqb, List, [], ◌∷◌, length, get_or, set, replicate, sym, refl, ap, ◌∙◌, ⊎_elim, arith}
use Rattle.sheets.specs.Columns.{has}
use Rattle.sheets.specs.Written.{EachPlace}
use Rattle.std.proofs.lemmas.List.{get_or-set_same, get_or-set_other, length-set, length-replicate, ext_get_or}
use Rattle.std.proofs.lemmas.Bool.Decides.{nat_tests}
use Rattle.std.proofs.lemmas.Bool.{cond-false, cases_Bool, cases_eq, eqb-true, true≢false}

abbrev one_if : Bool → ℕ
one_if b = cond b 1 0

-- how many of the places below n are among ks
abbrev taken : ℕ → List ℕ → ℕ
taken zero ks = 0
taken (suc n) ks = one_if (has n ks) + taken n ks

taken_le : (n : ℕ) (ks : List ℕ) → taken n ks ≤ n
taken_le zero ks = omega arith
taken_le (suc n) ks = let r = taken_le n ks in grind (arith, nat_tests)

-- where as many are taken as there are, each one is
all_taken : (n : ℕ) (ks : List ℕ) → taken n ks ≡ n → (k : ℕ) → k < n → has k ks ≡ true
all_taken zero ks e k h = absurd (omega arith)
all_taken (suc n) ks e k h =
    let low = taken_le n ks in
    let r = λ (p : taken n ks ≡ n). all_taken n ks p k in
    ⊎_elim (λ here. grind (arith, nat_tests)) (λ there. grind (arith, nat_tests)) (cases_eq k n)

taken_past : (n k : ℕ) (ks : List ℕ) → n ≤ k → taken n (k ∷ ks) ≡ taken n ks
taken_past zero k ks h = refl
taken_past (suc n) k ks h = let r = taken_past n k ks (omega arith) in grind (arith, nat_tests)

-- one more that was not among them
taken_more : (n k : ℕ) (ks : List ℕ) → k < n → has k ks ≡ false → taken n (k ∷ ks) ≡ suc (taken n ks)
taken_more zero k ks h e = absurd (omega arith)
taken_more (suc n) k ks h e =
    ⊎_elim
    (λ here. let r = taken_past n k ks (omega (arith, here)) in grind (arith, nat_tests))
    (λ there. let r = taken_more n k ks (omega (arith, h, there)) e in grind (arith, nat_tests))
    (cases_eq k n)

not_in : (k : ℕ) (ks : List ℕ) → ((j : ℕ) → j < length ks → k ≡ get_or ks j 0 → ⊥) → has k ks ≡ false
not_in k [] h = refl
not_in k (x ∷ xs) h = let here = h 0 (omega arith) in let r = not_in k xs (λ j l. h (suc j) (omega arith)) in grind (arith, nat_tests)

taken_none : (n : ℕ) → taken n [] ≡ 0
taken_none zero = refl
taken_none (suc n) = omega (arith, taken_none n)

-- places below n, none twice
taken_all : (n : ℕ) (ks : List ℕ) → ((i : ℕ) → i < length ks → get_or ks i 0 < n) → ((i j : ℕ) → i < j → j < length ks → get_or ks i 0 ≡ get_or ks j 0 → ⊥) → taken n ks ≡ length ks
taken_all n [] inside once = taken_none n
taken_all n (k ∷ ks) inside once =
    taken_more n k ks (inside 0 (omega arith)) (not_in k ks (λ j l. once 0 (suc j) (omega arith) (omega arith)))
    ∙ ap suc (taken_all n ks (λ i l. inside (suc i) (omega arith)) (λ i j l m. once (suc i) (suc j) (omega arith) (omega arith)))

-- the values of a row put at the places ks
abbrev pub put_at : List ℕ → List ℕ → List ℕ → List ℕ
put_at row [] values = values
put_at row (k ∷ ks) values = put_at row ks (set values k (get_or row k 0))

length_put : (row ks values : List ℕ) → length (put_at row ks values) ≡ length values
length_put row [] values = refl
length_put row (k ∷ ks) values = length_put row ks (set values k (get_or row k 0)) ∙ length-set values k (get_or row k 0)

module _ (row : List ℕ) (k : ℕ) where
  put_keeps : (ks values : List ℕ) → k < length values → get_or values k 0 ≡ get_or row k 0 → get_or (put_at row ks values) k 0 ≡ get_or row k 0
  put_keeps [] values h e = e
  put_keeps (x ∷ xs) values h e =
      put_keeps xs (set values x (get_or row x 0)) (omega (arith, length-set values x (get_or row x 0)))
      (⊎_elim
      (λ here. ap (λ j. get_or (set values j (get_or row j 0)) k 0) (sym here) ∙ get_or-set_same values k (get_or row k 0) 0 h)
      (λ there. get_or-set_other values x k (get_or row x 0) 0 there ∙ e)
      (cases_eq k x))

  -- a place among ks holds the value of the row
  put_there : (ks values : List ℕ) → k < length values → has k ks ≡ true → get_or (put_at row ks values) k 0 ≡ get_or row k 0
  put_there [] values h e = absurd (true≢false (sym e))
  put_there (x ∷ xs) values h e =
      let long = length-set values x (get_or row x 0) in
      ⊎_elim
      (λ t. put_keeps xs (set values x (get_or row x 0)) (omega (arith, long)) (ap (λ j. get_or (set values j (get_or row j 0)) k 0) (eqb-true x k t) ∙ get_or-set_same values k (get_or row k 0) 0 h))
      (λ f. put_there xs (set values x (get_or row x 0)) (omega (arith, long)) (sym (cond-false _ true (has k xs) f) ∙ e))
      (cases_Bool (eqb x k))

-- a row put at all its places, once each
pub row_back : (n : ℕ) (columns row : List ℕ) → EachPlace n columns → length row ≡ n → put_at row columns (replicate (length columns) 0) ≡ row
row_back n columns row places full =
    let as_many = places.as_many in
    let start : length {A = ℕ} (replicate (length columns) 0) ≡ length columns = length-replicate (length columns) 0 in
    let long = length_put row columns (replicate (length columns) 0) ∙ start in
    let all = taken_all n columns (λ i h. places.inside i (omega (arith, h, as_many))) (λ i j l h. places.once i j l (omega (arith, h, as_many))) ∙ as_many in
    ext_get_or 0 (put_at row columns (replicate (length columns) 0)) row (long ∙ as_many ∙ sym full)
    (λ k h. put_there row k columns (replicate (length columns) 0) (omega (arith, h, long, start)) (all_taken n columns all k (omega (arith, h, long, as_many))))
