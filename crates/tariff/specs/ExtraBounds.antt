-- What the extra adds: it stays within the limit, and is a fifth in the excess's share. Assumes nothing.
use Rattle.std.specs.Prelude.{◌≡◌, ℕ, ◌*◌, ◌/◌, Bool, true, false, cond, ℤ, pos, ◌+ℤ◌}
use Rattle.std.proofs.Common.{ap, ◌∙◌, mul_left_comm, mul_assoc, arith, lit<}
use Rattle.std.proofs.Math.Nat.{mul-div-mul_left}
use Rattle.std.proofs.lemmas.Int.{ints, clamps}
use Rattle.std.specs.Int.{int_min}
use Rattle.quantities.specs.Limits.{most_charge}
use Rattle.tariff.specs.Charges.{Bounded}

pub raised_bounded : (b : Bool) (z : ℤ) (n : ℕ) → Bounded z → Bounded (cond b (int_min (z +ℤ pos n) (pos most_charge)) z)
raised_bounded true z n h = record { low = omega (arith, ints, clamps); high = omega (arith, ints, clamps) }
raised_bounded false z n h = h

-- 20 hundredths of the excess over 100 of the deviation are a fifth of the excess over the deviation
pub fifth_share : (sum excess far : ℕ) → sum * (20 * excess) / (100 * far) ≡ sum * excess / (5 * far)
fifth_share sum excess far =
    ap (λ n. n / (100 * far)) (mul_left_comm sum 20 excess) ∙ ap (λ n. 20 * (sum * excess) / n) (mul_assoc 20 5 far)
    ∙ mul-div-mul_left (sum * excess) (5 * far) (lit< tt)
