-- Days that are alike have equal answers and records. Assumes nothing.
use Rattle.std.specs.Prelude.{◌≡◌, ℕ, true, List, ℤ, is_ok, Option}
use Rattle.facts.specs.Facts.{Facts, Within}
use Rattle.member_day.specs.declared.entries.GridEntry.{GridEntry}
use Rattle.parting.specs.Rule.{Asked}
use Rattle.day.specs.Records.{closing, day_records}
use Rattle.day.specs.declared.member.Member.{Member}

-- equal charges for all block facts within their limits
abbrev pub AlikeTariffs : (Facts → ℤ) → (Facts → ℤ) → Type 0
AlikeTariffs m n = (f : Facts) → Within f → m f ≡ n f

-- equal shares whatever may be asked
abbrev pub AlikeRules : (ℕ → List ℕ → List ℕ) → (ℕ → List ℕ → List ℕ) → Type 0
AlikeRules g h = (amount : ℕ) (weights : List ℕ) → Asked amount weights → g amount weights ≡ h amount weights

-- days with the same members and entries, by alike tariffs and alike rules
abbrev pub AlikeDays : Type 0
AlikeDays =
    (m n : Facts → ℤ) (g h : ℕ → List ℕ → List ℕ) → AlikeTariffs m n → AlikeRules g h →
    (gs : List (Option GridEntry)) (ms : List Member) (records : ℕ) →
    (closing m gs ms records ≡ closing n gs ms records)
    × (is_ok (closing m gs ms records) ≡ true → day_records m g gs ms ≡ day_records n h gs ms)
