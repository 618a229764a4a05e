-- The number that the bytes of a cell write. Assumes nothing.
use Rattle.std.specs.Prelude.{ℕ, ◌+◌, ◌-◌, ◌*◌, Bool, cond, ◌&&◌, ◌||◌, List, [], ◌∷◌, length, Some, None, Option, ◌==◌, nat_le, nat_lt, slice_index}

-- the most digits of a number, and the largest number
abbrev pub most_digits : ℕ
most_digits = 10

abbrev pub most_number : ℕ
most_number = 9999999999

abbrev pub is_digit : ℕ → Bool
is_digit b = nat_le 48 b && nat_le b 57

-- the number that digits write after v
abbrev pub digits_after : ℕ → List ℕ → Option ℕ
digits_after v [] = Some v
digits_after v (b ∷ bs) = cond (is_digit b) (digits_after (v * 10 + (b - 48)) bs) None

-- 1 to 10 digits, with no leading zero but in 0 itself
abbrev pub number_of : List ℕ → Option ℕ
number_of bs =
    cond (length bs == 0 || nat_lt most_digits (length bs)) None
    (cond (slice_index bs 0 == 48 && nat_lt 1 (length bs)) None (digits_after 0 bs))

pub data Meaning : Type 0 where
  number : ℕ → Meaning
  empty : Meaning
  other : Meaning

abbrev pub number_or_other : Option ℕ → Meaning
number_or_other (Some v) = number v
number_or_other None = other

-- what the bytes of a cell mean
abbrev pub meaning : List ℕ → Meaning
meaning bs = cond (length bs == 0) empty (number_or_other (number_of bs))
