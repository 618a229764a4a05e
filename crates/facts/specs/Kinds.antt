-- The kinds of members that deviate, their numbers and their available energy. Assumes nothing.
use Rattle.std.specs.Prelude.{◌≡◌, ℕ, Bool, cond, ℤ, pos, negsuc, Some, None, Option, Result, MatchResult, ◌==◌}
use Rattle.facts.specs.declared.kinds.Kind.{Kind}
use Rattle.facts.specs.declared.kinds.UnknownKind.{UnknownKind}
use Rattle.facts.specs.declared.kinds.Kind.TheVariants.{Buyer, Seller, SolarWind}
use Rattle.quantities.specs.Limits.{most_kwh}

abbrev pub kind_number : Kind → ℕ
kind_number Buyer = 1
kind_number Seller = 2
kind_number SolarWind = 3

-- the kind of a number, none where no kind that deviates has it
abbrev pub kind_of : ℤ → Option Kind
kind_of (pos n) = cond (n == 1) (Some Buyer) (cond (n == 2) (Some Seller) (cond (n == 3) (Some SolarWind) None))
kind_of (negsuc n) = None

-- what the search for the kind of a number comes to
abbrev pub IsKindOf : ℤ → Result Kind UnknownKind → Type 0
IsKindOf n r = MatchResult r (λ k. kind_of n ≡ Some k) (λ _. kind_of n ≡ None)

abbrev pub same_kind : Kind → Kind → Bool
same_kind j k = kind_number j == kind_number k

-- solar or wind has available energy, 1 kWh at least; the others have none
abbrev pub least_available : Kind → ℕ
least_available Buyer = 0
least_available Seller = 0
least_available SolarWind = 1

abbrev pub most_available : Kind → ℕ
most_available Buyer = 0
most_available Seller = 0
most_available SolarWind = most_kwh
