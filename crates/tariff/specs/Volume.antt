-- How far a deviation may go before ceiling and extra apply. Assumes nothing.
use Rattle.std.specs.Prelude.{ℕ, ◌*◌, ◌/◌, min, cond, nat_le}
use Rattle.facts.specs.Facts.{Facts}

-- 1,250 kWh up to a scheduled energy of 10,000, else 12 in the hundred of it, at most 7,500
abbrev pub limit_by_schedule : Facts → ℕ
limit_by_schedule f = cond (nat_le f.scheduled 10000) 1250 (min (12 * f.scheduled / 100) 7500)

-- the limit that holds; shut, so that the layers rest on it whatever it is
unfoldable pub volume_limit : Facts → ℕ
volume_limit f = limit_by_schedule f
