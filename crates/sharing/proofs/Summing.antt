-- Sums over the charges of a day. Assumes nothing.
use Rattle.std.proofs.Common.{◌≡◌, ℕ, ◌+◌, Bool, true, false, cond, List, [], ◌∷◌, refl, arith}
use Rattle.std.proofs.lemmas.List.Sums.{sum_by-cons}
use Rattle.sharing.specs.Sides.{on, fixed_on, weight_on, total, fixed_part, adjustable, weights}
use Rattle.sharing.specs.declared.charge.Charge.{Charge}
use Rattle.quantities.specs.declared.side.Side.{Side}

split : (b : Bool) (n : ℕ) → cond b n 0 + cond b 0 n ≡ n
split true n = omega arith
split false n = omega arith

pub two_parts : (s : Side) (c : Charge) → fixed_on s c + weight_on s c ≡ on s c
two_parts s c = split c.fixed (on s c)

-- a side is its fixed and its adjustable part
pub parts_of_total : (s : Side) (cs : List Charge) → fixed_part s cs + adjustable s cs ≡ total s cs
parts_of_total s [] = refl
parts_of_total s (c ∷ cs) =
    let a = sum_by-cons (fixed_on s) c cs in
    let b = sum_by-cons (λ x. x) (weight_on s c) (weights s cs) in
    let d = sum_by-cons (on s) c cs in
    let here = two_parts s c in
    let rest = parts_of_total s cs in
    omega arith
