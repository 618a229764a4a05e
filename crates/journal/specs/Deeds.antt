-- What a call does where it is accepted, read once for all that is said of journals. Assumes nothing.
use Rattle.std.specs.Prelude.{ℕ, List, [], ◌∷◌, ℤ, unsigned_abs}
use Rattle.quantities.specs.declared.paise.Paise.{Paise}
use Rattle.quantities.specs.Money.{money}
use Rattle.member_day.specs.declared.entries.GridEntry.{GridEntry}
use Rattle.member_day.specs.declared.entries.ReadingEntry.{ReadingEntry}
use Rattle.day.specs.declared.member.MemberKind.{MemberKind}
use Rattle.pool.specs.Calls.{kind_numbered}
use Rattle.pool.specs.Tables.{grid_entry, reading_entry}
use Rattle.journal.specs.declared.call.Call.{Call}
use Rattle.journal.specs.declared.call.Call.TheVariants.{Enrol, Open, GridRow, Reading, Amount, Close, DropDay, PayIn, PayOut, Account, Cash}

-- a day is opened under its number, closed or dropped
pub data Mark : Type 0 where
  opens : ℕ → Mark
  closes : Mark
  drops : Mark

-- a row of the grid for a block, a reading for a member and a block, an amount for a member
pub data Item : Type 0 where
  grid_row : ℕ → GridEntry → Item
  reading : ℕ → ℕ → ReadingEntry → Item
  amount : ℕ → Paise → Item

pub record Payment : Type 0 where
  pub account : ℕ
  pub paise : ℤ

-- each list has one thing, or none where the call does nothing of the kind
pub record Deed : Type 0 where
  pub enrols : List MemberKind
  pub marks : List Mark
  pub enters : List Item
  pub pays_in : List Payment
  pub pays_out : List Payment

abbrev doing : List MemberKind → List Mark → List Item → List Payment → List Payment → Deed
doing ks ms is ins outs = record { enrols = ks; marks = ms; enters = is; pays_in = ins; pays_out = outs }

abbrev payment : ℤ → ℤ → List Payment
payment account paise = record { account = unsigned_abs account; paise = paise } ∷ []

abbrev pub deed : Call → Deed
deed (Enrol kind) = doing (kind_numbered kind ∷ []) [] [] [] []
deed (Open day) = doing [] (opens (unsigned_abs day) ∷ []) [] [] []
deed (GridRow block hz100 price) = doing [] [] (grid_row (unsigned_abs block) (grid_entry hz100 price) ∷ []) [] []
deed (Reading member block scheduled metered available) =
    doing [] [] (reading (unsigned_abs member) (unsigned_abs block) (reading_entry scheduled metered available) ∷ []) [] []
deed (Amount member paise) = doing [] [] (amount (unsigned_abs member) (money paise) ∷ []) [] []
deed (Close room) = doing [] (closes ∷ []) [] [] []
deed DropDay = doing [] (drops ∷ []) [] [] []
deed (PayIn account paise) = doing [] [] [] (payment account paise) []
deed (PayOut account paise) = doing [] [] [] [] (payment account paise)
deed (Account account) = doing [] [] [] [] []
deed Cash = doing [] [] [] [] []
