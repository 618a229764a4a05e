-- One turn of a run, and its end. Assumes nothing.
use Rattle.std.proofs.Common.{◌≡◌, ℕ, ◌+◌, ◌<◌, List, [], ◌∷◌, ◌++◌, map, reverse, length, get_or, take, drop, set, ℤ, sym, ap, ◌∙◌, subst, arith}
use Rattle.std.proofs.lemmas.List.{take_more_set, take_more, map_push, reverse-append, drop-drop, drop-set-lt, append-nil}
use Rattle.facts.specs.Facts.{Facts}
use Rattle.pool.specs.declared.book.Book.{Book}
use Rattle.journal.specs.Law.{Stands}
use Rattle.journal.specs.declared.call.Call.{Call}
use Rattle.journal.specs.declared.entry.Entry.{Entry}

abbrev pub calls_of : List Entry → List Call
calls_of J = map (λ e. e.call) J

pub turn_calls : (J : List Entry) (cs : List Call) (i : ℕ) (e : Entry) (d : Call) → i < length J → i < length cs → e.call ≡ get_or cs i d → calls_of (take i J) ≡ take i cs → calls_of (take (i + 1) (set J i e)) ≡ take (i + 1) cs
turn_calls J cs i e d h k is inv =
    ap calls_of (take_more_set J i e h) ∙ (map_push (λ x. x.call) (take i J) e ∙ (ap (λ l. l ++ (e.call ∷ [])) inv ∙ (ap (λ c. take i cs ++ (c ∷ [])) is ∙ sym (take_more cs i d k))))

-- the journal so far, newest first, before an earlier one
pub turn_journal : (J before : List Entry) (i : ℕ) (e : Entry) → i < length J → reverse (take (i + 1) (set J i e)) ++ before ≡ e ∷ (reverse (take i J) ++ before)
turn_journal J before i e h = ap (λ l. reverse l ++ before) (take_more_set J i e h) ∙ ap (λ l. l ++ before) (reverse-append (take i J) (e ∷ []))

pub turn_beyond : (J old : List Entry) (i : ℕ) (e : Entry) → i < length J → drop i J ≡ drop i old → drop (i + 1) (set J i e) ≡ drop (i + 1) old
turn_beyond J old i e h inv = drop-set-lt (i + 1) J i e (omega arith) ∙ (sym (drop-drop 1 i J) ∙ (ap (drop 1) inv ∙ drop-drop 1 i old))

-- a step by a pool's tariff and rule is a step by those that it was made with
pub turn_stands : {T R : Type 0} (F : T → Facts → ℤ) (G : R → ℕ → List ℕ → List ℕ) (t t0 : T) (r r0 : R) (e : Entry) (b w : Book) → t ≡ t0 → r ≡ r0 →
    ((K : List Entry) → Stands (F t) (G r) K b → Stands (F t) (G r) (e ∷ K) w) → (K : List Entry) → Stands (F t0) (G r0) K b → Stands (F t0) (G r0) (e ∷ K) w
turn_stands F G t t0 r r0 e b w et er =
    subst (λ x. ((K : List Entry) → Stands (F t) (G r) K b → Stands (F t) (G r) (e ∷ K) w) → (K : List Entry) → Stands (F x) (G r0) K b → Stands (F x) (G r0) (e ∷ K) w) et
    (subst (λ y. ((K : List Entry) → Stands (F t) (G r) K b → Stands (F t) (G r) (e ∷ K) w) → (K : List Entry) → Stands (F t) (G y) K b → Stands (F t) (G y) (e ∷ K) w) er (λ step. step))

-- what holds after any journal that a pool stood after holds of a new pool's journal alone
pub from_none : {T R : Type 0} (F : T → Facts → ℤ) (G : R → ℕ → List ℕ → List ℕ) (t t0 : T) (r r0 : R) (b : Book) (L : List Entry) (X : (Facts → ℤ) → (ℕ → List ℕ → List ℕ) → List Entry → Type 0) →
    t ≡ t0 → r ≡ r0 → Stands (F t0) (G r0) [] b → ((J : List Entry) → Stands (F t) (G r) J b → X (F t) (G r) (L ++ J)) → X (F t0) (G r0) L
from_none F G t t0 r r0 b L X et er st after =
    let begun = subst (λ x. Stands (F x) (G r) [] b) (sym et) (subst (λ y. Stands (F t0) (G y) [] b) (sym er) st) in
    subst (X (F t0) (G r0)) (append-nil L) (subst (λ x. X (F x) (G r0) (L ++ [])) et (subst (λ y. X (F t) (G y) (L ++ [])) er (after [] begun)))
