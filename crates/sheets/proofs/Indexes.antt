-- A number among others and a name's place in a table.
use Rattle.std.proofs.Common.{◌≡◌, ℕ, suc, ◌+◌, ◌<◌, ◌≤◌, Bool, true, false, not, cond, eqb, ltb, List, [], ◌∷◌, map, length, position, Some, None, sym, refl, ap, suc-le-suc, zero-le, arith}
use Rattle.sheets.specs.Columns.{has, index_of}
use Rattle.std.proofs.lemmas.Bool.Decides.{nat_tests}
use Rattle.std.proofs.lemmas.List.{length-map}
use Rattle.std.proofs.lemmas.List.Recursion.{is_position_or_len}
use Rattle.std.specs.List.{list_any, position_or_len}
use Rattle.std.specs.Str.{bytes_eq}

pub has_any : (k : ℕ) (xs : List ℕ) → list_any (λ y. eqb y k) xs ≡ has k xs
has_any k [] = refl
has_any k (x ∷ xs) = let e = has_any k xs in grind (arith, nat_tests)

pub index_le : (names : List (List ℕ)) (c : List ℕ) → index_of names c ≤ length names
index_le [] c = zero-le
index_le (n ∷ ns) c = elim (bytes_eq n c) as (λ t. cond t 0 (suc (index_of ns c)) ≤ suc (length ns)) [ true ↦ zero-le | false ↦ suc-le-suc (index_le ns c) ]

index_is : (c : List ℕ) (names : List (List ℕ)) → index_of names c ≡ position_or_len (λ n. bytes_eq n c) names
index_is c = is_position_or_len (λ ns. index_of ns c) (λ n. bytes_eq n c) refl (λ n ns. elim (bytes_eq n c) as (λ t. cond t 0 (suc (index_of ns c)) ≡ cond t 0 (1 + index_of ns c)) [ true ↦ refl | false ↦ omega arith ])

module _ (names : List (List ℕ)) (c : List ℕ) where
  -- the name that was found
  pub found : (k : ℕ) → Some k ≡ position (λ n. bytes_eq n c) names → (k ≡ index_of names c) × (k < length names)
  found k e = let i = index_is c names in (grind (arith, nat_tests), grind (arith, nat_tests))

  -- none was found
  pub not_found : None ≡ position (λ n. bytes_eq n c) names → index_of names c ≡ length names
  not_found e = let i = index_is c names in let l = index_le names c in grind (arith, nat_tests)

-- a place in a list is that in the list of what its elements stand for
place_in : {X : Type 0} (f : X → List ℕ) (p : List ℕ → Bool) (xs : List X) → position_or_len p (map f xs) ≡ position_or_len (λ x. p (f x)) xs
place_in f p [] = refl
place_in f p (x ∷ xs) = ap (λ n. cond (not (p (f x))) (1 + n) 0) (place_in f p xs)

pub position_in : {X : Type 0} (f : X → List ℕ) (p : List ℕ → Bool) (xs : List X) → cond (ltb (position_or_len (λ x. p (f x)) xs) (length xs)) (Some (position_or_len (λ x. p (f x)) xs)) None ≡ position p (map f xs)
position_in f p xs = let e = place_in f p xs in let l = length-map xs f in sym (λ t. cond (ltb (e t) (l t)) (Some (e t)) None)
