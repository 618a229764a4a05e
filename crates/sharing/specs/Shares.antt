-- The lines of a day, and which days are refused. Assumes nothing.
use Rattle.std.specs.Prelude.{ℕ, zero, suc, Bool, cond, not, ◌||◌, List, [], ◌∷◌, map, length, ℤ, pos, negsuc, ◌-ℤ◌, Ok, Err, Result, ◌==◌, nat_lt}
use Rattle.parting.specs.Rule.{most_weights}
use Rattle.quantities.specs.Limits.{most_money}
use Rattle.quantities.specs.Money.{money, on_side}
use Rattle.quantities.specs.declared.paise.Paise.{Paise}
use Rattle.quantities.specs.declared.side.Side.{Side}
use Rattle.quantities.specs.declared.side.Side.TheVariants.{Payable, Receivable}
use Rattle.sharing.specs.Sides.{total, weights, adjustable, to_part, by_average}
use Rattle.sharing.specs.declared.charge.Charge.{Charge}
use Rattle.sharing.specs.declared.charge.Unshared.{Unshared}
use Rattle.sharing.specs.declared.charge.Unshared.TheVariants.{NoRoom, TooMuch}

-- the shares of a side by the rule g; where nothing is adjustable it is not asked, and all weights are 0
abbrev pub shares_on : (ℕ → List ℕ → List ℕ) → Side → List Charge → List ℕ
shares_on g s cs = cond (adjustable s cs == 0) (weights s cs) (g (to_part s cs) (weights s cs))

-- the share with the sign of the charge: p where it is payable, r where it is receivable
abbrev pub with_sign : ℤ → ℕ → ℕ → ℤ
with_sign (pos zero) p r = pos 0
with_sign (pos (suc n)) p r = on_side Payable p
with_sign (negsuc n) p r = on_side Receivable r

-- a fixed line is the charge, an adjustable one its share
abbrev pub line_of : Charge → ℕ → ℕ → Paise
line_of c p r = money (cond c.fixed c.sum.paise (with_sign c.sum.paise p r))

-- the lines from the shares of both sides
abbrev pub lines_by : List Charge → List ℕ → List ℕ → List Paise
lines_by [] ps rs = []
lines_by (c ∷ cs) [] rs = []
lines_by (c ∷ cs) (p ∷ ps) [] = []
lines_by (c ∷ cs) (p ∷ ps) (r ∷ rs) = line_of c p r ∷ lines_by cs ps rs

-- the members' lines: from the shares on a day shared by the average, the charges on any other
abbrev pub lines_of : (ℕ → List ℕ → List ℕ) → List Charge → List Paise
lines_of g cs =
    cond (by_average cs)
    (lines_by cs (shares_on g Payable cs) (shares_on g Receivable cs))
    (map (λ c. c.sum) cs)

-- the reserve's line: nothing on a day shared by the average, R − P on any other
abbrev pub reserve : List Charge → Paise
reserve cs = money (cond (by_average cs) (pos 0) (pos (total Receivable cs) -ℤ pos (total Payable cs)))

-- more charges than a rule parts by, or another count of places for lines
abbrev pub no_room : List Charge → ℕ → Bool
no_room cs places = nat_lt most_weights (length cs) || not (places == length cs)

-- P or R is above the limit
abbrev pub too_much : List Charge → Bool
too_much cs = nat_lt most_money (total Payable cs) || nat_lt most_money (total Receivable cs)

-- the answer: the reserve's line, or what the day is refused with
abbrev pub sharing : List Charge → ℕ → Result Paise Unshared
sharing cs places = cond (no_room cs places) (Err NoRoom) (cond (too_much cs) (Err TooMuch) (Ok (reserve cs)))
