-- The bytes of the cell that the bytes start with, and the digits that it starts with. Assumes nothing.
use Rattle.std.specs.Prelude.{◌≡◌, ℕ, ◌+◌, ◌<◌, ◌≤◌, Bool, false, cond, ◌||◌, List, [], ◌∷◌, length, drop, ◌==◌, slice_index}
use Rattle.cells.specs.Cells.{comma, line_feed}
use Rattle.cells.specs.Numbers.{is_digit, digits_after, most_digits}

abbrev pub is_stop : ℕ → Bool
is_stop b = b == comma || b == line_feed

-- the bytes before the first comma or line feed
abbrev pub front : List ℕ → List ℕ
front [] = []
front (b ∷ bs) = cond (is_stop b) [] (b ∷ front bs)

-- the first len bytes are digits and write value, and the cell has no more of them, or they are ten
pub record RunOf (bs : List ℕ) (len value : ℕ) : Type 0 where
  pub within : len ≤ length bs
  pub few : len ≤ most_digits
  pub long : length (front bs) ≡ len + length (front (drop len bs))
  pub same : digits_after value (front (drop len bs)) ≡ digits_after 0 (front bs)
  pub stops : len < most_digits → len < length bs → is_digit (slice_index bs len) ≡ false
