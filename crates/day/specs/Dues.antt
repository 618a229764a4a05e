-- What each member's day comes to, and whether all its entries are there. Assumes nothing.
use Rattle.std.specs.Prelude.{Bool, ◌&&◌, List, [], map, ℤ, pos, ◌+ℤ◌, is_some, Option}
use Rattle.std.specs.Option.{unwrap_or}
use Rattle.std.specs.List.{list_all}
use Rattle.facts.specs.Facts.{Facts}
use Rattle.facts.specs.declared.kinds.Kind.{Kind}
use Rattle.member_day.specs.Days.{day_due}
use Rattle.member_day.specs.Entries.{day_facts}
use Rattle.member_day.specs.declared.due.Due.{Due}
use Rattle.member_day.specs.declared.entries.GridEntry.{GridEntry}
use Rattle.quantities.specs.declared.paise.Paise.{Paise}
use Rattle.quantities.specs.Money.{money}
use Rattle.sharing.specs.declared.charge.Charge.{Charge}
use Rattle.day.specs.Members.{is_regional}
use Rattle.day.specs.declared.member.Member.{Member}
use Rattle.day.specs.declared.member.MemberKind.{MemberKind}
use Rattle.day.specs.declared.member.MemberKind.TheVariants.{Metered, Regional}

-- the facts of a member's blocks, no blocks where an entry is missing or outside its limits
abbrev pub facts_in : Kind → List (Option GridEntry) → Member → List Facts
facts_in k gs mb = unwrap_or (day_facts k mb.readings gs) []

-- a regional amount is the base, and has no surcharge
abbrev pub amount_due : Paise → Due
amount_due amount = record { base = amount; surcharge = money (pos 0) }

-- base and surcharge at a kind: by what a tariff means, or the regional amount alone
abbrev pub due_as : (Facts → ℤ) → List (Option GridEntry) → MemberKind → Member → Due
due_as m gs (Metered k) mb = day_due m k (facts_in k gs mb)
due_as m gs Regional mb = amount_due (unwrap_or mb.amount (money (pos 0)))

abbrev pub due_of : (Facts → ℤ) → List (Option GridEntry) → Member → Due
due_of m gs mb = due_as m gs mb.kind mb

-- the day's charge of a due: base plus surcharge, fixed for a regional amount
abbrev pub charge_on : Member → Due → Charge
charge_on mb d = record { fixed = is_regional mb.kind; sum = money (d.base.paise +ℤ d.surcharge.paise) }

abbrev pub charge_of : (Facts → ℤ) → List (Option GridEntry) → Member → Charge
charge_of m gs mb = charge_on mb (due_of m gs mb)

abbrev pub charges_of : (Facts → ℤ) → List (Option GridEntry) → List Member → List Charge
charges_of m gs ms = map (charge_of m gs) ms

-- the member's entries are there: 96 readings within their limits beside grid rows within theirs, or the amount
abbrev pub entered_as : List (Option GridEntry) → MemberKind → Member → Bool
entered_as gs (Metered k) mb = is_some (day_facts k mb.readings gs)
entered_as gs Regional mb = is_some mb.amount

abbrev pub entered : List (Option GridEntry) → Member → Bool
entered gs mb = entered_as gs mb.kind mb

abbrev pub all_entered : List (Option GridEntry) → List Member → Bool
all_entered gs ms = list_all (entered gs) ms

-- every grid row is there
abbrev pub all_given : List (Option GridEntry) → Bool
all_given gs = list_all is_some gs

-- every entry of the day is there; a grid row is wanted also where nobody is metered
abbrev pub complete : List (Option GridEntry) → List Member → Bool
complete gs ms = all_given gs && all_entered gs ms
