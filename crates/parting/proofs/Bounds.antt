-- What fits 64 bits where a rule is asked. Assumes nothing.
use Rattle.std.proofs.Common.{ℕ, ◌*◌, ◌^◌, ◌<◌, ◌≤◌, List, length, get_or, sum, arith}
use Rattle.std.proofs.lemmas.Nat.{mul-le}
use Rattle.std.proofs.lemmas.List.Sums.{get_or-le-sum_by}
use Rattle.parting.specs.Rule.{Asked, most_amount, most_total}

module _ (amount : ℕ) (ws : List ℕ) (asked : Asked amount ws) where
  -- a weight, or weights together, times the amount
  pub product_fits : (w : ℕ) → w ≤ sum ws → w * amount < 2 ^ 64
  product_fits w h = omega (arith, mul-le w amount most_total most_amount (omega (arith, asked.total_most)) asked.amount_most)

  pub weight_le : (k : ℕ) → k < length ws → get_or ws k 0 ≤ sum ws
  weight_le k h = get_or-le-sum_by (λ x. x) ws k 0 h
