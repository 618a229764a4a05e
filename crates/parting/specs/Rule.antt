-- What a parting rule may be asked, and the law that its shares keep. Assumes nothing.
use Rattle.std.specs.Prelude.{◌≡◌, ℕ, ◌+◌, ◌-◌, ◌*◌, ◌<◌, ◌≤◌, Bool, ◌&&◌, List, length, sum, nat_le, slice_index}

-- the largest sum, in paise
abbrev pub most_amount : ℕ
most_amount = 3000000000

-- the largest total of the weights
abbrev pub most_total : ℕ
most_total = 3000000000

-- the most weights
abbrev pub most_weights : ℕ
most_weights = 16

-- A rule is asked for a sum in paise and for weights that are not all 0, so that there is at least one.
pub record Asked (amount : ℕ) (weights : List ℕ) : Type 0 where
  pub amount_most : amount ≤ most_amount
  pub few : length weights ≤ most_weights
  pub weighs : 1 ≤ sum weights
  pub total_most : sum weights ≤ most_total

-- the same as a test
abbrev pub may_ask : ℕ → List ℕ → Bool
may_ask amount weights =
    nat_le amount most_amount
    && (nat_le (length weights) most_weights && (nat_le 1 (sum weights) && nat_le (sum weights) most_total))

-- how far two numbers are apart
abbrev pub apart : ℕ → ℕ → ℕ
apart a b = (a - b) + (b - a)

-- The law: there are as many shares as weights, they add to the sum, and each is less than one paisa from
-- its exact share, weight × sum / total. Both are multiplied by the total, so that all numbers are whole.
pub record Parted (amount : ℕ) (weights shares : List ℕ) : Type 0 where
  pub as_many : length shares ≡ length weights
  pub together : sum shares ≡ amount
  pub near : (k : ℕ) → k < length weights → apart (slice_index shares k * sum weights) (slice_index weights k * amount) < sum weights
