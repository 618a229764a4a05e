-- Which columns a line of names gives. Assumes nothing.
use Rattle.std.specs.Prelude.{ℕ, suc, Bool, true, false, cond, ◌&&◌, ◌||◌, List, [], ◌∷◌, ◌++◌, map, length, Some, None, Option, ◌==◌}
use Rattle.std.specs.Str.{bytes_eq}

-- the place of a name in the table, or the table's length
abbrev pub index_of : List (List ℕ) → List ℕ → ℕ
index_of [] c = 0
index_of (n ∷ ns) c = cond (bytes_eq n c) 0 (suc (index_of ns c))

abbrev pub has : ℕ → List ℕ → Bool
has k [] = false
has k (x ∷ xs) = cond (x == k) true (has k xs)

-- each one is in a table of n names, and none came before
abbrev pub fresh : ℕ → List ℕ → List ℕ → Bool
fresh n seen [] = true
fresh n seen (k ∷ ks) = cond (k == n || has k seen) false (fresh n (seen ++ k ∷ []) ks)

-- the columns in the order of the cells, where the cells are the names, once each
abbrev pub columns_of : List (List ℕ) → List (List ℕ) → Option (List ℕ)
columns_of names cells =
    cond (length cells == length names && fresh (length names) [] (map (index_of names) cells)) (Some (map (index_of names) cells)) None
