-- One member of a table changed, and all of them cleared. Assumes nothing.
use Rattle.std.proofs.Common.{◌≡◌, ℕ, ◌<◌, true, List, map, length, get_or, set, None, sym, refl, ap, ◌∙◌, subst, inl, inr}
use Rattle.std.proofs.lemmas.Bool.{cases_eq}
use Rattle.std.proofs.lemmas.List.{get_or-set_same, get_or-set_other, get_or-map}
use Rattle.day.specs.declared.member.Member.{Member}
use Rattle.day.specs.declared.member.MemberKind.{MemberKind}
use Rattle.day.specs.declared.member.MemberKind.TheVariants.{Metered, Regional}
use Rattle.pool.specs.Sound.{reading_fine}
use Rattle.day.specs.Members.{member_at, nobody}
use Rattle.pool.specs.Tables.{changed, cleared}

-- what holds of the changed member and of every other holds of each member after a change
pub changed_at : (ms : List Member) (k : ℕ) (f : Member → Member) (m : ℕ) (P : Member → Type 0) → k < length ms →
    (m ≡ k → P (f (member_at ms k))) → ((m ≡ k → ⊥) → P (member_at ms m)) → P (member_at (changed ms k f) m)
changed_at ms k f m P lt same other = elim (cases_eq m k) [
  | inl e ↦ subst P (sym (ap (member_at (changed ms k f)) e ∙ get_or-set_same ms k (f (member_at ms k)) nobody lt)) (same e)
  | inr ne ↦ subst P (sym (get_or-set_other ms k m (f (member_at ms k)) nobody ne)) (other ne)
]

-- the same of the entry of one block
pub set_at : {X : Type 0} (xs : List X) (k : ℕ) (x d : X) (j : ℕ) (P : X → Type 0) → k < length xs → P x → P (get_or xs j d) → P (get_or (set xs k x) j d)
set_at xs k x d j P lt same other = elim (cases_eq j k) [
  | inl e ↦ subst P (sym (ap (λ i. get_or (set xs k x) i d) e ∙ get_or-set_same xs k x d lt)) same
  | inr ne ↦ subst P (sym (get_or-set_other xs k j x d ne)) other
]

pub cleared_at : (ms : List Member) (m : ℕ) → m < length ms → member_at (map cleared ms) m ≡ cleared (member_at ms m)
cleared_at ms m lt = get_or-map cleared ms m nobody nobody lt

-- no entry is within every limit
pub none_fine : (k : MemberKind) → reading_fine k None ≡ true
none_fine (Metered k) = refl
none_fine Regional = refl
