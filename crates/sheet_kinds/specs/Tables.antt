-- The names of each kind, and which of its columns may be empty. Assumes nothing.
use Rattle.std.specs.Prelude.{ℕ, Bool, true, false, cond, ◌&&◌, List, [], ◌∷◌, codes, nat_le}
use Rattle.std.specs.Str.{bytes_eq}

pub record Table : Type 0 where
  pub number : ℕ
  pub names : List (List ℕ)
  pub optional : ℕ → Bool

abbrev pub is_among : List ℕ → List (List ℕ) → Bool
is_among n [] = false
is_among n (m ∷ ms) = cond (bytes_eq m n) true (is_among n ms)

-- no name stands twice
abbrev pub apart : List (List ℕ) → Bool
apart [] = true
apart (n ∷ ns) = cond (is_among n ns) false (apart ns)

-- every byte stands from 0 to z in the code
abbrev pub plain_name : List ℕ → Bool
plain_name [] = true
plain_name (b ∷ bs) = (nat_le 48 b && nat_le b 122) && plain_name bs

abbrev pub plain_names : List (List ℕ) → Bool
plain_names [] = true
plain_names (n ∷ ns) = plain_name n && plain_names ns

abbrev pub members : Table
members = record { number = 1; names = codes "kind" ∷ codes "pays" ∷ codes "gets" ∷ []; optional = λ k. nat_le 1 k }

abbrev pub grid : Table
grid = record { number = 2; names = codes "block" ∷ codes "hz100" ∷ codes "price" ∷ []; optional = λ k. false }

abbrev pub readings : Table
readings = record { number = 3; names = codes "member" ∷ codes "block" ∷ codes "scheduled" ∷ codes "metered" ∷ codes "available" ∷ []; optional = λ k. nat_le 4 k }
