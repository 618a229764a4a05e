-- The vector's rate by its stretches of frequency, and its bound. Assumes nothing.
use Rattle.std.specs.Prelude.{◌≡◌, ℕ, ◌+◌, ◌-◌, ◌*◌, ◌/◌, ◌<◌, ◌≤◌, min, nat_le}
use Rattle.std.proofs.Common.{mul-le-mul_left, mul_comm, arith}
use Rattle.std.proofs.Math.Nat.{div-le_of_le-mul}
use Rattle.std.proofs.lemmas.Bool.{cond_both, leb-true}
use Rattle.std.proofs.lemmas.Bool.Decides.{nat_tests}
use Rattle.quantities.specs.Limits.{most_rate}
use Rattle.tariff.specs.Vector.{vector_rate}

-- so many of the equal steps of a rise are no more than the rise
pub part_fits : (rise step steps : ℕ) → step ≤ steps → rise * step / steps ≤ rise
part_fits rise step steps h = div-le_of_le-mul steps (omega (arith, mul-le-mul_left rise h, mul_comm steps rise))

-- from 50.05 Hz down to 50.00 the rate goes from 0 to the price
pub rate_to_price : (f p : ℕ) → 5000 ≤ f → f < 5005 → p ≤ most_rate → min (0 + (p - 0) * (5005 - f) / 5) most_rate ≡ vector_rate f p
rate_to_price f p h k fits = let m : p * (5005 - f) / 5 ≤ p = part_fits p (5005 - f) 5 (omega arith) in grind (arith, nat_tests)

-- and from there down to 49.85 from the price to the highest rate
pub rate_to_most : (f p : ℕ) → 4985 ≤ f → f < 5000 → p ≤ most_rate → min (p + (most_rate - p) * (5000 - f) / 15) most_rate ≡ vector_rate f p
rate_to_most f p h k fits =
    let m : (most_rate - p) * (5000 - f) / 15 ≤ most_rate - p = part_fits (most_rate - p) (5000 - f) 15 (omega arith) in
    grind (arith, nat_tests)

-- no rate is above the limit
pub rate_fits : (f p : ℕ) → p ≤ most_rate → vector_rate f p ≤ most_rate
rate_fits f p fits =
    let P : ℕ → Type 0 = λ r. r ≤ most_rate in
    cond_both (nat_le 5005 f) _ _ P (λ _. omega arith) (λ e₁.
    cond_both (nat_le 5000 f) _ _ P (λ e₂. omega (arith, leb-true 5000 f e₂, part_fits p (5005 - f) 5 (omega (arith, leb-true 5000 f e₂)))) (λ e₂.
    cond_both (nat_le 4985 f) _ _ P (λ e₃. omega (arith, part_fits (most_rate - p) (5000 - f) 15 (omega (arith, leb-true 4985 f e₃))))
    (λ _. omega arith)))
