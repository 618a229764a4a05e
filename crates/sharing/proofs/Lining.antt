-- The lines one by one. Assumes nothing.
use Rattle.std.proofs.Common.{◌≡◌, ℕ, zero, suc, ◌<◌, List, [], ◌∷◌, length, get_or, refl, ap, arith}
use Rattle.sharing.specs.Laws.{charge_at, line_at}
use Rattle.sharing.specs.Shares.{line_of, lines_by}
use Rattle.sharing.specs.declared.charge.Charge.{Charge}

pub length_lines : (cs : List Charge) (ps rs : List ℕ) → length ps ≡ length cs → length rs ≡ length cs → length (lines_by cs ps rs) ≡ length cs
length_lines [] ps rs a b = refl
length_lines (c ∷ cs) [] rs a b = a
length_lines (c ∷ cs) (p ∷ ps) [] a b = b
length_lines (c ∷ cs) (p ∷ ps) (r ∷ rs) a b = ap suc (length_lines cs ps rs (omega arith) (omega arith))

pub lines_at : (cs : List Charge) (ps rs : List ℕ) (k : ℕ) → length ps ≡ length cs → length rs ≡ length cs → k < length cs → line_at (lines_by cs ps rs) k ≡ line_of (charge_at cs k) (get_or ps k 0) (get_or rs k 0)
lines_at [] ps rs k a b h = absurd (omega arith)
lines_at (c ∷ cs) [] rs k a b h = absurd (omega arith)
lines_at (c ∷ cs) (p ∷ ps) [] k a b h = absurd (omega arith)
lines_at (c ∷ cs) (p ∷ ps) (r ∷ rs) zero a b h = refl
lines_at (c ∷ cs) (p ∷ ps) (r ∷ rs) (suc k) a b h = lines_at cs ps rs k (omega arith) (omega arith) (omega arith)
