-- What stands in a table of accounts. Assumes nothing.
use Rattle.std.specs.Prelude.{ℕ, List, [], ◌∷◌, map, ℤ, pos, ◌+ℤ◌, slice_index_or, slice_set}
use Rattle.quantities.specs.Money.{money}
use Rattle.sharing.specs.Laws.{together}
use Rattle.day.specs.Laws.{record_in}
use Rattle.day.specs.declared.record.Record.{Record}
use Rattle.pool.specs.declared.accounts.Account.{Account}

-- an account that owes so much; what is due to it is negative
abbrev pub owing : ℤ → Account
owing z = record { sum = money z }

abbrev pub sum_at : List Account → ℕ → ℤ
sum_at xs k = (slice_index_or xs k (owing (pos 0))).sum.paise

-- so much more at one account, and all others as they were
abbrev pub added : List Account → ℕ → ℤ → List Account
added xs k x = slice_set xs k (owing (sum_at xs k +ℤ x))

abbrev pub total : List Account → ℤ
total [] = pos 0
total (a ∷ xs) = a.sum.paise +ℤ total xs

-- each line added to its account
abbrev pub posted : List Account → List Record → List Account
posted [] rs = []
posted (a ∷ xs) [] = a ∷ xs
posted (a ∷ xs) (r ∷ rs) = owing (a.sum.paise +ℤ r.line.paise) ∷ posted xs rs

-- the line of an account in the records of a day; past their end none
abbrev pub line_at : List Record → ℕ → ℤ
line_at rs k = (record_in rs k).line.paise

abbrev pub sum_of_lines : List Record → ℤ
sum_of_lines rs = together (map (λ r. r.line) rs)
