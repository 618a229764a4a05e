-- What a shared day keeps, over its charges and lines alone. Assumes nothing.
use Rattle.std.specs.Prelude.{◌≡◌, ℕ, ◌<◌, ◌≤◌, true, false, List, [], ◌∷◌, length, ℤ, pos, ◌+ℤ◌, ◌-ℤ◌, ◌*ℤ◌, slice_index_or, unsigned_abs}
use Rattle.quantities.specs.Limits.{most_money}
use Rattle.quantities.specs.declared.paise.Paise.{Paise}
use Rattle.quantities.specs.declared.side.Side.{Side}
use Rattle.sharing.specs.Sides.{no_charge, weight_on, adjustable, to_part, by_average}
use Rattle.quantities.specs.Money.{money}
use Rattle.sharing.specs.declared.charge.Charge.{Charge}

-- the sum of lines
abbrev pub together : List Paise → ℤ
together [] = pos 0
together (line ∷ lines) = line.paise +ℤ together lines

abbrev pub charge_at : List Charge → ℕ → Charge
charge_at cs k = slice_index_or cs k no_charge

abbrev pub line_at : List Paise → ℕ → Paise
line_at ls k = slice_index_or ls k (money (pos 0))

-- how far a line is from its exact share, charge × parted sum / sum of weights, multiplied by the sum of weights;
-- the exact share has the sign of the charge
abbrev pub distance : Side → List Charge → Paise → Paise → ℕ
distance s cs line charge = unsigned_abs (line.paise *ℤ pos (adjustable s cs) -ℤ charge.paise *ℤ pos (to_part s cs))

pub record Fair (cs : List Charge) (ls : List Paise) (reserve : Paise) : Type 0 where
  -- there is a line for each charge
  pub as_many : length ls ≡ length cs
  -- all lines, the reserve's among them, add to nothing
  pub even : together ls +ℤ reserve.paise ≡ pos 0
  -- on a day shared by the average an adjustable line is less than one paisa from its exact share
  pub near : by_average cs ≡ true → (s : Side) (k : ℕ) → k < length cs → 0 < weight_on s (charge_at cs k) →
      distance s cs (line_at ls k) (charge_at cs k).sum < adjustable s cs
  -- on such a day the reserve bears nothing
  pub borne : by_average cs ≡ true → reserve ≡ money (pos 0)
  -- on any other day every line is the charge
  pub unshared : by_average cs ≡ false → (k : ℕ) → k < length cs → line_at ls k ≡ (charge_at cs k).sum
  -- a fixed line is the charge
  pub stays : (k : ℕ) → k < length cs → (charge_at cs k).fixed ≡ true → line_at ls k ≡ (charge_at cs k).sum
  -- a charge of 0 has the line 0
  pub nothing : (k : ℕ) → k < length cs → (charge_at cs k).sum ≡ money (pos 0) → line_at ls k ≡ money (pos 0)
  -- every line is within the limit, the reserve's too
  pub within : (k : ℕ) → k < length cs → unsigned_abs (line_at ls k).paise ≤ most_money
  pub within_reserve : unsigned_abs reserve.paise ≤ most_money
