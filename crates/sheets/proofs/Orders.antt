-- Names that stand once each, in any order.
use Rattle.std.proofs.Common.{◌≡◌, ℕ, zero, suc, ◌<◌, true, false, ◌&&◌, ◌||◌, eqb, List, [], ◌∷◌, ◌++◌, map, length, get_or, Some, None, sym, refl, ap, ◌∙◌, subst, ⊎_elim, arith}
use Rattle.sheet_kinds.specs.Tables.{apart, is_among}
use Rattle.sheets.proofs.Indexes.{index_le}
use Rattle.sheets.specs.Columns.{has, fresh, index_of, columns_of}
use Rattle.sheets.specs.Names.{EachOnce, AnyOrder}
use Rattle.std.proofs.lemmas.Slice.Eq.{bytes_eq-Decides}
use Rattle.std.proofs.lemmas.List.{ext_get_or, get_or-map, length-map}
use Rattle.std.proofs.lemmas.Bool.Decides.{nat_tests}
use Rattle.std.proofs.lemmas.Bool.{cond-true, cond-false, cases_Bool, and_parts, and_from, or_parts, or_from, eqb-true, eqb-false, eq-eqb, ne_eqb, true≢false}

-- the place of a name has that name
index_named : (names : List (List ℕ)) (c : List ℕ) → index_of names c < length names → get_or names (index_of names c) [] ≡ c
index_named [] c h = absurd (omega arith)
index_named (n ∷ ns) c h = let d = bytes_eq-Decides n c in let r = index_named ns c in grind (arith, nat_tests)

not_among : (n : List ℕ) (ns : List (List ℕ)) (k : ℕ) → k < length ns → is_among n ns ≡ false → get_or ns k [] ≡ n → ⊥
not_among n [] k h e p = absurd (omega arith)
not_among n (m ∷ ms) zero h e p = let d = bytes_eq-Decides m n in grind (arith, nat_tests)
not_among n (m ∷ ms) (suc k) h e p = let d = bytes_eq-Decides m n in let r = not_among n ms k in grind (arith, nat_tests)

apart_parts : (n : List ℕ) (ns : List (List ℕ)) → apart (n ∷ ns) ≡ true → (is_among n ns ≡ false) × (apart ns ≡ true)
apart_parts n ns e = (grind (arith, nat_tests), grind (arith, nat_tests))

-- where no name stands twice, each is found at its place
index_apart : (names : List (List ℕ)) (k : ℕ) → apart names ≡ true → k < length names → index_of names (get_or names k []) ≡ k
index_apart [] k a h = absurd (omega arith)
index_apart (n ∷ ns) zero a h = let d = bytes_eq-Decides n n in grind (arith, nat_tests)
index_apart (n ∷ ns) (suc k) a h =
    let p = apart_parts n ns a in
    let d = bytes_eq-Decides n (get_or ns k []) in
    let no = not_among n ns k (omega arith) p.0 in
    let r = index_apart ns k p.1 (omega arith) in
    grind (arith, nat_tests)

-- what is in a list with one more at its end
has_push : (x k : ℕ) (xs : List ℕ) → has x (xs ++ k ∷ []) ≡ false → (has x xs ≡ false) × (k ≡ x → ⊥)
has_push x k [] e = (refl, λ p. grind (arith, nat_tests))
has_push x k (y ∷ ys) e = let r = has_push x k ys in (grind (arith, nat_tests), λ p. grind (arith, nat_tests))

push_has : (x k : ℕ) (xs : List ℕ) → has x xs ≡ false → (k ≡ x → ⊥) → has x (xs ++ k ∷ []) ≡ false
push_has x k [] e p = grind (arith, nat_tests)
push_has x k (y ∷ ys) e p = let r = push_has x k ys in grind (arith, nat_tests)

-- each of ks is a place below n that is not among those seen, and none stands twice
record Fresh (n : ℕ) (seen ks : List ℕ) : Type 0 where
  known : (i : ℕ) → i < length ks → get_or ks i 0 ≡ n → ⊥
  unseen : (i : ℕ) → i < length ks → has (get_or ks i 0) seen ≡ false
  distinct : (i j : ℕ) → i < j → j < length ks → get_or ks i 0 ≡ get_or ks j 0 → ⊥

each : (k : ℕ) (ks : List ℕ) (P : ℕ → Type 0) → P k → ((i : ℕ) → i < length ks → P (get_or ks i 0)) → (i : ℕ) → i < length (k ∷ ks) → P (get_or (k ∷ ks) i 0)
each k ks P here rest zero h = here
each k ks P here rest (suc i) h = rest i (omega arith)

pairs : (k : ℕ) (ks : List ℕ) → ((j : ℕ) → j < length ks → k ≡ get_or ks j 0 → ⊥) → ((i j : ℕ) → i < j → j < length ks → get_or ks i 0 ≡ get_or ks j 0 → ⊥) → (i j : ℕ) → i < j → j < length (k ∷ ks) → get_or (k ∷ ks) i 0 ≡ get_or (k ∷ ks) j 0 → ⊥
pairs k ks here rest i zero l h = absurd (omega arith)
pairs k ks here rest zero (suc j) l h = here j (omega arith)
pairs k ks here rest (suc i) (suc j) l h = rest i j (omega arith) (omega arith)

fresh_says : (n : ℕ) (seen ks : List ℕ) → fresh n seen ks ≡ true → Fresh n seen ks
fresh_says n seen [] e = record { known = λ i h. absurd (omega arith); unseen = λ i h. absurd (omega arith); distinct = λ i j l h. absurd (omega arith) }
fresh_says n seen (k ∷ ks) e =
    ⊎_elim
    (λ t. absurd (true≢false (sym e ∙ cond-true _ false (fresh n (seen ++ k ∷ []) ks) t)))
    (λ f.
    let p = or_parts (eqb k n) (has k seen) f in
    let r = fresh_says n (seen ++ k ∷ []) ks (sym (cond-false _ false (fresh n (seen ++ k ∷ []) ks) f) ∙ e) in
    record {
      known = each k ks (λ x. x ≡ n → ⊥) (eqb-false k n p.0) r.known;
      unseen = each k ks (λ x. has x seen ≡ false) p.1 (λ i h. (has_push (get_or ks i 0) k seen (r.unseen i h)).0);
      distinct = pairs k ks (λ j h. (has_push (get_or ks j 0) k seen (r.unseen j h)).1) r.distinct;
    })
    (cases_Bool (eqb k n || has k seen))

says_fresh : (n : ℕ) (seen ks : List ℕ) → Fresh n seen ks → fresh n seen ks ≡ true
says_fresh n seen [] o = refl
says_fresh n seen (k ∷ ks) o =
    cond-false _ false (fresh n (seen ++ k ∷ []) ks) (or_from _ _ (ne_eqb k n (o.known 0 (omega arith))) (o.unseen 0 (omega arith)))
    ∙ says_fresh n (seen ++ k ∷ []) ks (record {
      known = λ i h. o.known (suc i) (omega arith);
      unseen = λ i h. push_has (get_or ks i 0) k seen (o.unseen (suc i) (omega arith)) (o.distinct 0 (suc i) (omega arith) (omega arith));
      distinct = λ i j l h. o.distinct (suc i) (suc j) (omega arith) (omega arith);
    })

module _ (names cells : List (List ℕ)) (columns : List ℕ) where
  abbrev places : List ℕ
  places = map (index_of names) cells

  place_at : (i : ℕ) → i < length cells → get_or (map (index_of names) cells) i 0 ≡ index_of names (get_or cells i [])
  place_at i h = get_or-map (index_of names) cells i [] 0 h

  -- what accepted names say
  pub accepted : columns_of names cells ≡ Some columns → EachOnce names cells columns
  accepted =
      ⊎_elim
      (λ t e.
      let p = and_parts (eqb (length cells) (length names)) (fresh (length names) [] (map (index_of names) cells)) t in
      let are : map (index_of names) cells ≡ columns = let s : Some (map (index_of names) cells) ≡ Some columns = sym (cond-true _ (Some (map (index_of names) cells)) None t) ∙ e in cc in
      let f = fresh_says (length names) [] (map (index_of names) cells) p.1 in
      let long = length-map cells (index_of names) in
      let low : (i : ℕ) → i < length cells → index_of names (get_or cells i []) < length names =
      λ i h. let no = f.known i (omega (arith, long, h)) in let q = place_at i h in let ne : index_of names (get_or cells i []) ≡ length names → ⊥ = λ z. no (q ∙ z) in omega (arith, index_le names (get_or cells i []), ne) in
      subst (EachOnce names cells) are (record {
        as_many = eqb-true _ _ p.0;
        listed = long;
        inside = λ i h. omega (arith, place_at i h, low i h);
        named = λ i h. ap (λ k. get_or names k []) (place_at i h) ∙ index_named names (get_or cells i []) (low i h);
        once = λ i j l h. f.distinct i j l (omega (arith, long, h));
      }))
      (λ t e. let n : None ≡ Some columns = sym (cond-false _ (Some (map (index_of names) cells)) None t) ∙ e in cc)
      (cases_Bool (eqb (length cells) (length names) && fresh (length names) [] (map (index_of names) cells)))

  -- names that stand once each are accepted
  pub accepts : apart names ≡ true → EachOnce names cells columns → columns_of names cells ≡ Some columns
  accepts a o =
      let long = length-map cells (index_of names) in
      let same : (i : ℕ) → i < length (map (index_of names) cells) → get_or (map (index_of names) cells) i 0 ≡ get_or columns i 0 =
      λ i h. let l : i < length cells = omega (arith, long, h) in place_at i l ∙ ap (index_of names) (sym (o.named i l)) ∙ index_apart names (get_or columns i 0) a (o.inside i l) in
      let are : map (index_of names) cells ≡ columns = ext_get_or 0 (map (index_of names) cells) columns (omega (arith, long, o.listed)) same in
      let good : fresh (length names) [] (map (index_of names) cells) ≡ true =
      ap (fresh (length names) []) are ∙ says_fresh (length names) [] columns (record {
        known = λ i h. let l = o.inside i (omega (arith, o.listed, h)) in λ z. omega (arith, l, z);
        unseen = λ i h. refl;
        distinct = λ i j l h. o.once i j l (omega (arith, o.listed, h));
      }) in
      cond-true _ (Some (map (index_of names) cells)) None (and_from _ _ (eq-eqb _ _ o.as_many) good) ∙ ap Some are

pub any_order : (names : List (List ℕ)) → apart names ≡ true → AnyOrder names
any_order names a cells columns = (accepted names cells columns, accepts names cells columns a)
