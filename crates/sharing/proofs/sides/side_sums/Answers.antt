-- A side is its fixed and its adjustable part. Assumes nothing.
use Rattle.std.proofs.Common.{refl, arith}
use Rattle.sharing.proofs.Summing.{parts_of_total}
use Rattle.sharing.proofs.sides.side_sums.Goals as goal

pub returns-then-saturating_add-gt-MOST_MONEY : goal.returns-then-saturating_add-gt-MOST_MONEY
returns-then-saturating_add-gt-MOST_MONEY c = record { answer = (refl, omega (arith, parts_of_total c.args.side c.args.charges.now)) }

pub returns : goal.returns
returns c =
    let whole = parts_of_total c.args.side c.args.charges.now in
    record { answer = record { fixed_held = omega arith; adjustable_held = omega arith; total_held = omega arith; within = omega arith } }
