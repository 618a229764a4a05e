-- What one entry, an enrolment and an opening leave of the tables, place by place. Assumes nothing.
use Rattle.std.proofs.Common.{◌≡◌, ℕ, zero, suc, ◌<◌, Bool, true, false, cond, ◌&&◌, eqb, List, [], ◌∷◌, map, length, get_or, take, set, Some, None, Option, sym, refl, ap, ◌∙◌, inl, inr}
use Rattle.std.proofs.lemmas.List.{get_or-set_same, get_or-set_other}
use Rattle.std.proofs.lemmas.Bool.{cases_eq, eq-eqb, ne_eqb}
use Rattle.member_day.specs.declared.entries.ReadingEntry.{ReadingEntry}
use Rattle.day.specs.Members.{member_at, nobody}
use Rattle.day.specs.declared.member.Member.{Member}
use Rattle.day.specs.declared.member.MemberKind.{MemberKind}
use Rattle.pool.specs.Tables.{changed, cleared, with_reading, with_amount}
use Rattle.pool.proofs.Members.{changed_at}
use Rattle.quantities.specs.declared.paise.Paise.{Paise}
use Rattle.journal.specs.Words.{or_else}

-- the kinds of the first n members
abbrev pub first_kinds : ℕ → List Member → List MemberKind
first_kinds n ms = map (λ x. x.kind) (take n ms)

pub kinds_cleared : (n : ℕ) (ms : List Member) → first_kinds n (map cleared ms) ≡ first_kinds n ms
kinds_cleared zero ms = refl
kinds_cleared (suc n) [] = refl
kinds_cleared (suc n) (x ∷ ms) = ap (λ l. x.kind ∷ l) (kinds_cleared n ms)

-- a member that keeps its kind leaves the kinds as they were
pub kinds_kept : (n : ℕ) (ms : List Member) (k : ℕ) (x : Member) → x.kind ≡ (member_at ms k).kind → first_kinds n (set ms k x) ≡ first_kinds n ms
kinds_kept zero ms k x e = refl
kinds_kept (suc n) [] k x e = refl
kinds_kept (suc n) (y ∷ ms) zero x e = ap (λ z. z ∷ first_kinds n ms) e
kinds_kept (suc n) (y ∷ ms) (suc k) x e = ap (λ l. y.kind ∷ l) (kinds_kept n ms k x e)

-- what was entered last, or else what stood there
pub or_last : {X : Type 0} (t : Bool) (x : X) (o : Option X) → cond t (Some x) o ≡ or_else (cond t (Some x) None) o
or_last true x o = refl
or_last false x o = refl

-- one place of a table after a write
pub one_place : {X : Type 0} (xs : List (Option X)) (i : ℕ) (x : X) (j : ℕ) → i < length xs → get_or (set xs i (Some x)) j None ≡ cond (eqb j i) (Some x) (get_or xs j None)
one_place xs i x j lt = elim (cases_eq j i) [
  | inl e ↦ let t : eqb j i ≡ true = eq-eqb j i e in rw t (ap (λ k. get_or (set xs i (Some x)) k None) e ∙ get_or-set_same xs i (Some x) None lt)
  | inr ne ↦ let t : eqb j i ≡ false = ne_eqb j i ne in rw t (get_or-set_other xs i j (Some x) None ne)
]

-- one reading of one member after a write
pub one_reading : (ms : List Member) (k i : ℕ) (r : ReadingEntry) (m j : ℕ) → k < length ms → i < length (member_at ms k).readings →
    get_or (member_at (changed ms k (with_reading i r)) m).readings j None ≡ cond (eqb m k && eqb j i) (Some r) (get_or (member_at ms m).readings j None)
one_reading ms k i r m j lk li = elim (cases_eq m k) [
  | inl e ↦
      let t : eqb m k ≡ true = eq-eqb m k e in
      let here : member_at (changed ms k (with_reading i r)) m ≡ with_reading i r (member_at ms k) = ap (member_at (changed ms k (with_reading i r))) e ∙ get_or-set_same ms k (with_reading i r (member_at ms k)) nobody lk in
      rw t (ap (λ x. get_or x.readings j None) here ∙ (one_place (member_at ms k).readings i r j li ∙ ap (λ x. cond (eqb j i) (Some r) (get_or (member_at ms x).readings j None)) (sym e)))
  | inr ne ↦
      let t : eqb m k ≡ false = ne_eqb m k ne in
      rw t (ap (λ x. get_or x.readings j None) (get_or-set_other ms k m (with_reading i r (member_at ms k)) nobody ne))
]

-- one member's amount after a write
pub one_amount : (ms : List Member) (k : ℕ) (p : Paise) (m : ℕ) → k < length ms → (member_at (changed ms k (with_amount p)) m).amount ≡ cond (eqb m k) (Some p) (member_at ms m).amount
one_amount ms k p m lk = elim (cases_eq m k) [
  | inl e ↦
      let t : eqb m k ≡ true = eq-eqb m k e in
      rw t (ap (λ x. x.amount) (ap (member_at (changed ms k (with_amount p))) e ∙ get_or-set_same ms k (with_amount p (member_at ms k)) nobody lk))
  | inr ne ↦
      let t : eqb m k ≡ false = ne_eqb m k ne in
      rw t (ap (λ x. x.amount) (get_or-set_other ms k m (with_amount p (member_at ms k)) nobody ne))
]

-- what a change of a member leaves as it was
pub kept_at : {X : Type 0} (ms : List Member) (k : ℕ) (f : Member → Member) (q : Member → X) (m : ℕ) → k < length ms → ((x : Member) → q (f x) ≡ q x) → q (member_at (changed ms k f) m) ≡ q (member_at ms m)
kept_at ms k f q m lk same = changed_at ms k f m (λ x. q x ≡ q (member_at ms m)) lk (λ e. same (member_at ms k) ∙ ap (λ i. q (member_at ms i)) (sym e)) (λ _. refl)
