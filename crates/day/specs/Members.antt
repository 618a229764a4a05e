-- The members of a day and their kinds. Assumes nothing.
use Rattle.std.specs.Prelude.{◌≡◌, ℕ, Bool, true, false, cond, List, [], ℤ, pos, negsuc, Some, None, Option, Result, MatchResult, ◌==◌, slice_index_or}
use Rattle.std.specs.Option.{option_map}
use Rattle.facts.specs.Kinds.{kind_number, kind_of}
use Rattle.facts.specs.declared.kinds.Kind.TheVariants.{Buyer}
use Rattle.facts.specs.declared.kinds.UnknownKind.{UnknownKind}
use Rattle.day.specs.declared.member.Member.{Member}
use Rattle.day.specs.declared.member.MemberKind.{MemberKind}
use Rattle.day.specs.declared.member.MemberKind.TheVariants.{Metered, Regional}

-- the most members
abbrev pub most_members : ℕ
most_members = 16

-- the number of the kind whose members have a regional amount
abbrev pub regional_number : ℕ
regional_number = 4

abbrev pub member_kind_number : MemberKind → ℕ
member_kind_number (Metered k) = kind_number k
member_kind_number Regional = regional_number

-- the kind of a number, none where no kind has it
abbrev pub member_kind_of : ℤ → Option MemberKind
member_kind_of (pos n) = cond (n == regional_number) (Some Regional) (option_map Metered (kind_of (pos n)))
member_kind_of (negsuc n) = None

-- what the search for the kind of a number comes to
abbrev pub IsMemberKindOf : ℤ → Result MemberKind UnknownKind → Type 0
IsMemberKindOf n r = MatchResult r (λ k. member_kind_of n ≡ Some k) (λ _. member_kind_of n ≡ None)

-- whose charge is fixed
abbrev pub is_regional : MemberKind → Bool
is_regional (Metered k) = false
is_regional Regional = true

abbrev pub nobody : Member
nobody = record { kind = Metered Buyer; amount = None; readings = [] }

abbrev pub member_at : List Member → ℕ → Member
member_at ms k = slice_index_or ms k nobody
