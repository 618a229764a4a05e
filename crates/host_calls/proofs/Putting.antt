-- The rows that are written, one after another.
use Rattle.std.proofs.Common.{◌≡◌, ℕ, ◌+◌, ◌<◌, ◌≤◌, List, length, get_or, drop, sym, ap, ◌∙◌}
use Rattle.host_calls.specs.Filled.{Room, put_numbers, put_rows}
use Rattle.std.proofs.lemmas.List.{at_drop_more, at_drop_all}

module _ {A B : Type 0} (f : B → List A) where
  -- one row more is written
  pub rows_more : (o p q : Room A) (rs : List B) (i : ℕ) (d : B) → i < length rs → put_numbers o (f (get_or rs i d)) ≡ p → put_rows f o (drop i rs) ≡ q → put_rows f p (drop (i + 1) rs) ≡ q
  rows_more o p q rs i d h is inv =
      ap (λ r. put_rows f r (drop (i + 1) rs)) (sym is) ∙ (sym (at_drop_more (put_rows f o) rs i d h) ∙ inv)

  -- all rows are written
  pub rows_end : (o q : Room A) (rs : List B) (i : ℕ) → length rs ≤ i → put_rows f o (drop i rs) ≡ q → q ≡ o
  rows_end o q rs i h inv = sym (sym (at_drop_all (put_rows f o) rs i h) ∙ inv)
