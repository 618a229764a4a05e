-- A loop that writes what a function gives for each element of a list. Assumes nothing.
use Rattle.std.proofs.Common.{◌≡◌, ℕ, suc, ◌+◌, ◌<◌, ◌≤◌, List, [], ◌∷◌, ◌++◌, map, length, get_or, take, set, sym, refl, ap, ◌∙◌, arith}
use Rattle.std.proofs.lemmas.List.{take_more_set, map_more, take_all}

module _ {X Y : Type 0} (f : X → Y) where
  pub map_step : (xs : List X) (out : List Y) (i : ℕ) (d : X) (y : Y) → i < length xs → i < length out → y ≡ f (get_or xs i d) → take i out ≡ map f (take i xs) → take (i + 1) (set out i y) ≡ map f (take (i + 1) xs)
  map_step xs out i d y h k e inv = take_more_set out i y k ∙ (ap (λ l. l ++ (y ∷ [])) inv ∙ (ap (λ v. map f (take i xs) ++ (v ∷ [])) e ∙ sym (map_more f xs i d h)))

  pub map_end : (xs : List X) (out : List Y) (i : ℕ) → length out ≡ length xs → length xs ≤ i → take i out ≡ map f (take i xs) → out ≡ map f xs
  map_end xs out i e h inv = sym (take_all i out (omega arith)) ∙ (inv ∙ ap (map f) (take_all i xs h))

  -- and one that is written place by place
  pub mapped : (xs : List X) (out : List Y) (d : X) → length out ≡ length xs → ((k : ℕ) (e : Y) → k < length xs → get_or out k e ≡ f (get_or xs k d)) → out ≡ map f xs
  mapped [] [] d same each = refl
  mapped [] (y ∷ ys) d same each = absurd (omega arith)
  mapped (x ∷ xs) [] d same each = absurd (omega arith)
  mapped (x ∷ xs) (y ∷ ys) d same each = ap (λ z. z ∷ ys) (each 0 y (omega arith)) ∙ ap (λ zs. f x ∷ zs) (mapped xs ys d (omega arith) (λ k e h. each (suc k) e (omega arith)))
