-- Steps of a running total that is rounded down. Assumes nothing.
use Rattle.std.specs.Prelude.{◌≡◌, ℕ, zero, suc, ◌+◌, ◌-◌, ◌*◌, ◌/◌, ◌<◌, ◌≤◌}
use Rattle.std.proofs.Common.{ap, ◌∙◌, add-mul, mod-lt, div-add-mod', add-one, arith}
use Rattle.std.proofs.lemmas.Nat.{le-div}
use Rattle.parting.specs.Places.{adds}
use Rattle.parting.specs.Rule.{apart}

-- a total with more weight is no less when rounded down
pub rounds_up : (s w a t : ℕ) → 0 < t → s * a / t ≤ (s + w) * a / t
rounds_up s w a t pos = le-div (s * a / t) ((s + w) * a) t pos (omega (arith, div-add-mod' (s * a) t, add-mul s w a))

-- a quotient is the number that lies between
pub rounded : (x t r : ℕ) → 0 < t → r ≡ x / t → (r * t ≤ x) × (x < (r + 1) * t)
rounded x t r pos e = rw e (omega (arith, div-add-mod' x t), omega (arith, div-add-mod' x t, mod-lt x pos, add-mul (x / t) 1 t))

-- the step over one weight is near that weight's exact share
pub step_near : (s w a t : ℕ) → 0 < t → apart (((s + w) * a / t - s * a / t) * t) (w * a) < t
step_near s w a t pos =
    let before = s * a / t in
    let after = (s + w) * a / t in
    let up : before ≤ after = rounds_up s w a t pos in
    let split : after * t ≡ (after - before) * t + before * t = ap (λ x. x * t) (omega arith) ∙ add-mul (after - before) before t in
    omega (arith, split, add-mul s w a, div-add-mod' (s * a) t, div-add-mod' ((s + w) * a) t, mod-lt (s * a) pos, mod-lt ((s + w) * a) pos)

-- steps of what never falls add up to its last value
pub telescope : (f : ℕ → ℕ) (n : ℕ) → ((k : ℕ) → k < n → f k ≤ f (k + 1)) → adds (λ k. f (k + 1) - f k) n + f 0 ≡ f n
telescope f zero h = omega arith
telescope f (suc n) h = omega (arith, telescope f n (λ k l. h k (omega arith)), h n (omega arith), ap f (add-one n))
