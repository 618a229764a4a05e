-- The front of the bytes, and the digits that it starts with, byte after byte.
use Rattle.std.proofs.Common.{◌≡◌, ℕ, suc, ◌+◌, ◌<◌, ◌≤◌, true, false, cond, ltb, List, [], ◌∷◌, length, get_or, take, drop, None, Some, refl, ap, ◌∙◌, suc-le-suc, zero-le, arith}
use Rattle.cells.specs.Scans.{is_stop, front}
use Rattle.std.proofs.lemmas.List.{drop_more}
use Rattle.std.proofs.lemmas.List.Recursion.{is_position_or_len}
use Rattle.std.specs.List.{position_or_len}
use Rattle.std.specs.Option.{unwrap_or}
use Rattle.std.proofs.lemmas.Bool.{cond-true, cond-false}
use Rattle.std.proofs.lemmas.Bool.Decides.{nat_tests}

pub front_le : (bs : List ℕ) → length (front bs) ≤ length bs
front_le [] = zero-le
front_le (b ∷ bs) =
    elim (is_stop b) as (λ t. length (cond t [] (b ∷ front bs)) ≤ suc (length bs)) [ true ↦ zero-le | false ↦ suc-le-suc (front_le bs) ]

pub front_take : (bs : List ℕ) → take (length (front bs)) bs ≡ front bs
front_take [] = refl
front_take (b ∷ bs) =
    elim (is_stop b) as (λ t. take (length (cond t [] (b ∷ front bs))) (b ∷ bs) ≡ cond t [] (b ∷ front bs)) [ true ↦ refl | false ↦ ap (λ l. b ∷ l) (front_take bs) ]

module _ (bs : List ℕ) (i : ℕ) (h : i < length bs) where
  -- the cell ends here
  pub front_here : is_stop (get_or bs i 0) ≡ true → front (drop i bs) ≡ []
  front_here e = ap front (drop_more bs i 0 h) ∙ cond-true _ [] _ e

  -- the cell goes on
  pub front_on : is_stop (get_or bs i 0) ≡ false → front (drop i bs) ≡ get_or bs i 0 ∷ front (drop (i + 1) bs)
  front_on e = ap front (drop_more bs i 0 h) ∙ cond-false _ [] _ e

-- the place of the first stop, or the length
pub front_place : (bs : List ℕ) → length (front bs) ≡ position_or_len is_stop bs
front_place = is_position_or_len (λ bs. length (front bs)) is_stop refl (λ b bs. elim (is_stop b) as (λ t. length (cond t [] (b ∷ front bs)) ≡ cond t 0 (1 + length (front bs))) [ true ↦ refl | false ↦ omega arith ])

pub place_or_len : (bs : List ℕ) → unwrap_or (cond (ltb (position_or_len is_stop bs) (length bs)) (Some (position_or_len is_stop bs)) None) (length bs) ≡ length (front bs)
place_or_len bs =
    let e = front_place bs in
    let k = front_le bs in
    grind (arith, nat_tests)
