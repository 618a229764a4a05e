-- The columns of a line of names, one cell after another.
use Rattle.std.proofs.Common.{◌≡◌, ℕ, ◌+◌, ◌<◌, true, false, ◌||◌, eqb, ◌≢◌, List, [], ◌∷◌, ◌++◌, map, length, get_or, take, set, Some, None, sym, ap, ◌∙◌, append_assoc, arith, length-set, below_more}
use Rattle.sheets.specs.Columns.{has, fresh, index_of, columns_of}
use Rattle.std.proofs.lemmas.List.{get_or-set_same, get_or-set_other, take_more_set}
use Rattle.std.proofs.lemmas.Bool.{cond-true, cond-false, and_right}

-- i cells of all are done, and ps are left
pub record Listing (names all ps : List (List ℕ)) (n i : ℕ) (at : List ℕ) : Type 0 where
  pub room : length at ≡ 8
  pub inside : (j : ℕ) → j < i → get_or at j 0 < n
  pub left : i + length ps ≡ length all
  pub same : fresh n (take i at) (map (index_of names) ps) ≡ fresh n [] (map (index_of names) all)
  pub whole : take i at ++ map (index_of names) ps ≡ map (index_of names) all

module _ (names cells : List (List ℕ)) where
  none_fresh : fresh (length names) [] (map (index_of names) cells) ≡ false → None ≡ columns_of names cells
  none_fresh h = sym (cond-false _ (Some (map (index_of names) cells)) None (and_right (eqb (length cells) (length names)) _ h))

module _ {names all ps : List (List ℕ)} {i : ℕ} {at : List ℕ} (o : Listing names all ps (length names) i at) where
  module _ (k : ℕ) (c : List ℕ) (qs : List (List ℕ)) (were : ps ≡ c ∷ qs) (is : k ≡ index_of names c) where
    mapped_step : map (index_of names) ps ≡ k ∷ map (index_of names) qs
    mapped_step = ap (map (index_of names)) were ∙ ap (λ x. x ∷ map (index_of names) qs) (sym is)

    -- the cell is no name, or one that came before
    pub refused : (eqb k (length names) || has k (take i at)) ≡ true → None ≡ columns_of names all
    refused e = none_fresh names all (sym o.same ∙ ap (fresh (length names) (take i at)) mapped_step ∙ cond-true _ false _ e)

    pub step : i < 8 → k < length names → (eqb k (length names) || has k (take i at)) ≡ false → Listing names all qs (length names) (i + 1) (set at i k)
    step few low e =
        let rest : List ℕ = map (index_of names) qs in
        let put : take (i + 1) (set at i k) ≡ take i at ++ k ∷ [] = take_more_set at i k (omega (arith, o.room)) in
        record {
          room = length-set at i k ∙ o.room;
          inside = below_more _ i (λ j l. let ne : j ≢ i = omega arith in rw get_or-set_other (o.inside j l)) (let lt : i < length at = omega (arith, o.room) in rw get_or-set_same low);
          left = omega (arith, o.left, ap length were);
          same = ap (λ l. fresh (length names) l rest) put ∙ sym (cond-false _ false (fresh (length names) (take i at ++ k ∷ []) rest) e) ∙ ap (fresh (length names) (take i at)) (sym mapped_step) ∙ o.same;
          whole = ap (λ l. l ++ rest) put ∙ append_assoc (take i at) (k ∷ []) rest ∙ ap (λ l. take i at ++ l) (sym mapped_step) ∙ o.whole;
        }
