-- Sheets without bytes, and how many lines bytes have.
use Rattle.std.proofs.Common.{ℕ, suc, ◌≤◌, true, false, cond, eqb, List, [], ◌∷◌, length, suc-le-suc, zero-le, arith}
use Rattle.cells.specs.Cells.{lines, onto, line_feed}
use Rattle.cells.specs.Left.{others}

onto_few : (b : ℕ) (ls : List (List ℕ)) → length (onto b ls) ≤ suc (length ls)
onto_few b [] = omega arith
onto_few b (l ∷ ls) = omega arith

-- every line has a byte at least, its line feed or another
pub lines_few : (bs : List ℕ) → length (lines bs) ≤ length bs
lines_few [] = zero-le
lines_few (b ∷ bs) =
    elim (eqb b line_feed) as (λ t. length (cond t ([] ∷ lines bs) (onto b (lines bs))) ≤ suc (length bs))
    [ true ↦ suc-le-suc (lines_few bs) | false ↦ omega (arith, onto_few b (lines bs), lines_few bs) ]

pub others_few : {X : Type 0} (xs : List X) → length (others xs) ≤ length xs
others_few [] = zero-le
others_few (x ∷ xs) = omega arith
