-- What the second supplier's C program is answered for one block. Assumes nothing.
use Rattle.std.specs.Prelude.{ℕ, ◌+◌, ℤ, pos, Ok, Err, Result}
use Rattle.facts.specs.Facts.{Facts}
use Rattle.facts.specs.Refusals.{refusal_number}
use Rattle.facts.specs.declared.refusals.FactsRefusal.{FactsRefusal}
use Rattle.house.specs.Pile.{house_charge}

-- a refusal's number is answered above this; charges lie within 100,000,000 either way
abbrev pub refused : ℕ
refused = 1000000000

-- the charge in paise, or the number of the refusal
abbrev pub house_answer : Result Facts FactsRefusal → ℤ
house_answer (Ok f) = house_charge f
house_answer (Err e) = pos (refused + refusal_number e)
