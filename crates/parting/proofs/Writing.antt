-- Lists that are written place by place. Assumes nothing.
use Rattle.std.proofs.Common.{◌≡◌, ℕ, ◌+◌, ◌<◌, ◌≤◌, List, length, get_or, set, ap, ◌∙◌, arith}
use Rattle.std.proofs.lemmas.List.FromFn.{length-map-range_with_len, get_or-map-range_with_len}
use Rattle.std.proofs.lemmas.List.{get_or-set_other}
use Rattle.std.proofs.lemmas.List.Edits.{fill_by_more}
use Rattle.parting.specs.Places.{by_place}

module _ {A : Type 0} (d : A) where
  -- one place more of a list that is written by place
  pub written : (f : ℕ → A) (xs : List A) (i : ℕ) (v : A) → i < length xs → ((k : ℕ) → k < i → get_or xs k d ≡ f k) → v ≡ f i → (k : ℕ) → k < i + 1 → get_or (set xs i v) k d ≡ f k
  written f xs i v l before e = rw e (fill_by_more f xs i d l before)

  -- and of one that a pass turns from g to f
  pub rewritten : (f g : ℕ → A) (xs : List A) (k : ℕ) (v : A) (n : ℕ) → k < length xs → ((j : ℕ) → j < k → get_or xs j d ≡ f j) × ((j : ℕ) → k ≤ j → j < n → get_or xs j d ≡ g j) → v ≡ f k → ((j : ℕ) → j < k + 1 → get_or (set xs k v) j d ≡ f j) × ((j : ℕ) → k + 1 ≤ j → j < n → get_or (set xs k v) j d ≡ g j)
  rewritten f g xs k v n l was is = (
    λ j h. written f xs k v l was.0 is j h,
    λ j h b. get_or-set_other xs k j v d (λ same. omega arith) ∙ was.1 j (omega arith) b,
  )

-- a list that is written holds the number of each place
pub placed_length : (ws : List ℕ) (f : ℕ → ℕ) (xs : List ℕ) → xs ≡ by_place ws f → length xs ≡ length ws
placed_length ws f xs e = ap length e ∙ length-map-range_with_len f 0 (length ws)

pub placed_at : (ws : List ℕ) (f : ℕ → ℕ) (xs : List ℕ) → xs ≡ by_place ws f → (k : ℕ) → k < length ws → get_or xs k 0 ≡ f k
placed_at ws f xs e k h = ap (λ zs. get_or zs k 0) e ∙ get_or-map-range_with_len f 0 (length ws) k k 0 h (omega arith)
