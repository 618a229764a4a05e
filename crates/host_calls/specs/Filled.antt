-- Numbers written one after another into a place for so many. Assumes nothing.
use Rattle.std.specs.Prelude.{◌≡◌, ℕ, ◌+◌, min, cond, List, [], ◌∷◌, length, ℤ, pos, negsuc, Ok, Err, Result, nat_lt, slice_index, slice_set}
use Rattle.host_calls.specs.declared.room.Room.{Room as RoomHeld}
use Rattle.sheet_kinds.specs.Faults.{fault_number, fault_spot}
use Rattle.sheet_kinds.specs.declared.fault.SheetFault.{SheetFault}
use Rattle.sheet_kinds.specs.declared.readings.ReadingNumbers.{ReadingNumbers}
use Rattle.sheet_kinds.specs.declared.grid.GridNumbers.{GridNumbers}
use Rattle.sheet_kinds.specs.declared.members.MemberRow.{MemberRow}

-- the numbers, and where the next one goes; there is no more room at the end
pub record Room (A : Type 0) : Type 0 where
  pub held : List A
  pub at : ℕ

abbrev pub put_number : {A : Type 0} → Room A → A → Room A
put_number o x = record { held = slice_set o.held o.at x; at = cond (nat_lt o.at (length o.held)) (o.at + 1) o.at }

abbrev pub put_numbers : {A : Type 0} → Room A → List A → Room A
put_numbers o [] = o
put_numbers o (x ∷ xs) = put_numbers (put_number o x) xs

-- the numbers of each row, one row after another
abbrev pub put_rows : {A B : Type 0} → (B → List A) → Room A → List B → Room A
put_rows numbers o [] = o
put_rows numbers o (v ∷ vs) = put_rows numbers (put_numbers o (numbers v)) vs

abbrev pub room_at : {A : Type 0} → List A → ℕ → Room A
room_at held at = record { held = held; at = at }

-- the numbers that stand in a room, and where the next one goes
abbrev pub so_far : {A : Type 0} → RoomHeld A → Room A
so_far o = room_at o.into.now o.at

-- both are rooms in one place that was lent
abbrev pub SamePlace : {A : Type 0} → RoomHeld A → RoomHeld A → Type 0
SamePlace o p = p.into.ghost_name ≡ o.into.ghost_name

-- how many numbers were written, or -1 for a fault
abbrev pub answered : Result ℕ SheetFault → ℤ
answered (Ok n) = pos (min n 9223372036854775807)
answered (Err f) = negsuc 0

abbrev pub member_list : MemberRow → List ℕ
member_list r = r.kind ∷ r.pays ∷ r.gets ∷ []

abbrev pub grid_list : GridNumbers → List ℕ
grid_list r = r.block ∷ r.hz100 ∷ r.price ∷ []

abbrev pub reading_list : ReadingNumbers → List ℕ
reading_list r = r.member ∷ r.block ∷ r.scheduled ∷ r.metered ∷ r.available ∷ []

-- the four numbers of a fault
abbrev pub fault_list : SheetFault → List ℕ
fault_list f = (fault_spot f).sheet ∷ (fault_spot f).line ∷ (fault_spot f).cell ∷ fault_number f ∷ []

-- the values of a row by their places in the table
abbrev pub three_places : List ℕ → List ℕ
three_places v = slice_index v 0 ∷ slice_index v 1 ∷ slice_index v 2 ∷ []

abbrev pub five_places : List ℕ → List ℕ
five_places v = slice_index v 0 ∷ slice_index v 1 ∷ slice_index v 2 ∷ slice_index v 3 ∷ slice_index v 4 ∷ []

-- a fault's numbers stand first in a place for so many
abbrev pub Tells : SheetFault → List ℕ → ℕ → Type 0
Tells f held room = (before : List ℕ) × (length before ≡ room) × (held ≡ (put_numbers (room_at before 0) (fault_list f)).held)
