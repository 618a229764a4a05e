-- What the code of the largest remainder rule computes step by step. Assumes nothing.
use Rattle.std.proofs.Common.{◌≡◌, ℕ, ◌+◌, ◌-◌, ◌*◌, ◌/◌, ◌%◌, ◌<◌, ◌≤◌, true, false, cond, count_by, ltb, leb, List, length, drop, take, get_or, sum, ap, ◌∙◌, inl, inr, arith}
use Rattle.std.proofs.lemmas.List.{get_or-drop, length-drop, take_all}
use Rattle.std.proofs.lemmas.List.FromFn.{fill_by_all}
use Rattle.std.proofs.lemmas.Bool.{cases_Bool}
use Rattle.std.proofs.lemmas.Bool.Decides.{nat_tests}
use Rattle.parting.specs.LargestRemainder.{before, floor_at, largest_remainder, largest_share, left_over, precedes, rank_among, rank_at, rest_at}
use Rattle.parting.specs.Places.{adds, by_place, tally}
use Rattle.parting.specs.Rule.{Asked, most_amount, most_total}
use Rattle.parting.specs.Adding.{adds_front, adds_less, adds_list, adds_more, adds_on, adds_same, at_le_adds, tally_same}
use Rattle.parting.specs.LargestLaw.{floors_le, rest_lt}
use Rattle.parting.proofs.Writing.{placed_at, placed_length}

-- ---- rounding down
module _ (amount : ℕ) (ws : List ℕ) where
  pub floor_is : (k t : ℕ) → t ≡ sum ws → get_or ws k 0 * amount / t ≡ floor_at amount ws k
  unfolding floor_at
  floor_is k t e = rw e

  pub rest_is : (k t : ℕ) → t ≡ sum ws → get_or ws k 0 * amount % t ≡ rest_at amount ws k
  unfolding rest_at
  rest_is k t e = rw e

  pub floors_front : Asked amount ws → (i : ℕ) → i ≤ length ws → adds (floor_at amount ws) i ≤ amount
  floors_front asked i h = omega (arith, adds_less (floor_at amount ws) i (length ws) h, floors_le amount ws asked)

-- ---- ranking: a member at a lower place, j, comes before k unless k has the larger remainder, and one at a higher place
-- only where its own is the larger
one_lower : (x y j k : ℕ) → j < k → ◌≡◌ {A = ℕ} (cond (leb y x) 1 0) (cond (before x j y k) 1 0)
one_lower x y j k h = elim (cases_Bool (leb y x)) [
  | inl e ↦ let first : before x j y k ≡ true = grind (arith, nat_tests) in rw (e, first)
  | inr e ↦ let first : before x j y k ≡ false = grind (arith, nat_tests) in rw (e, first)
]

one_higher : (x y j k : ℕ) → k ≤ j → ◌≡◌ {A = ℕ} (cond (leb (y + 1) x) 1 0) (cond (before x j y k) 1 0)
one_higher x y j k h = elim (cases_Bool (leb (y + 1) x)) [
  | inl e ↦ let first : before x j y k ≡ true = grind (arith, nat_tests) in rw (e, first)
  | inr e ↦ let first : before x j y k ≡ false = grind (arith, nat_tests) in rw (e, first)
]

module _ (rests : List ℕ) (k : ℕ) (within : k < length rests) where
  abbrev rest : ℕ → ℕ
  rest i = get_or rests i 0

  lower : count_by (leb (rest k)) (take k rests) ≡ tally (precedes rest k) k
  lower = adds_front (λ x. cond (leb (rest k) x) 1 0) 0 rests k (omega arith) ∙ adds_same _ _ k (λ j h. one_lower (rest j) (rest k) j k h)

  higher : count_by (leb (rest k + 1)) (drop (k + 1) rests) ≡ adds (λ j. cond (precedes rest k (k + 1 + j)) 1 0) (length (drop (k + 1) rests))
  higher = adds_list (λ x. cond (leb (rest k + 1) x) 1 0) 0 (drop (k + 1) rests) ∙ adds_same _ _ (length (drop (k + 1) rests)) (λ j h. rw (get_or-drop (k + 1) rests j 0) (one_higher (rest (k + 1 + j)) (rest k) (k + 1 + j) k (omega arith)))

  -- nobody comes before himself
  own_none : ◌≡◌ {A = ℕ} (cond (precedes rest k k) 1 0) 0
  own_none = let none : precedes rest k k ≡ false = grind (arith, nat_tests) in rw none

  pub ahead_is : count_by (leb (get_or rests k 0)) (take k rests) + count_by (leb (get_or rests k 0 + 1)) (take (length rests - (k + 1)) (drop (k + 1) rests)) ≡ rank_among (λ i. get_or rests i 0) (length rests) k
  ahead_is =
      let all : k + 1 + length (drop (k + 1) rests) ≡ length rests = omega (arith, length-drop {A = ℕ}) in
      let rear = ap (count_by (leb (rest k + 1))) (take_all (length rests - (k + 1)) (drop (k + 1) rests) (omega (arith, length-drop {A = ℕ}))) in
      omega (arith, rear, lower, higher, own_none, adds_more (λ j. cond (precedes rest k j) 1 0) k, adds_on (λ j. cond (precedes rest k j) 1 0) (k + 1) (length (drop (k + 1) rests)), ap (tally (precedes rest k)) all)

-- ---- handing out
module _ (amount : ℕ) (ws floors : List ℕ) (floored : floors ≡ by_place ws (floor_at amount ws)) where
  pub floors_small : Asked amount ws → (k : ℕ) → k < length floors → get_or floors k 0 ≤ most_amount
  floors_small asked k h =
      let l : k < length ws = omega (arith, placed_length ws _ floors floored) in
      omega (arith, placed_at ws _ floors floored k l, at_le_adds (floor_at amount ws) (length ws) k l, floors_le amount ws asked, asked.amount_most)

  module _ (rests : List ℕ) (rested : rests ≡ by_place ws (rest_at amount ws)) where
    pub rests_small : Asked amount ws → (k : ℕ) → k < length rests → get_or rests k 0 < most_total
    rests_small asked k h =
        let l : k < length ws = omega (arith, placed_length ws _ rests rested) in
        omega (arith, placed_at ws _ rests rested k l, rest_lt amount ws asked k, asked.total_most)

    rank_is : (k : ℕ) → k < length ws → rank_among (λ i. get_or rests i 0) (length rests) k ≡ rank_at amount ws k
    unfolding rank_at
    rank_is k h =
        ap (λ n. rank_among (λ i. get_or rests i 0) n k) (placed_length ws _ rests rested)
        ∙ tally_same (precedes (λ i. get_or rests i 0) k) (precedes (rest_at amount ws) k) (length ws) (λ j l. rw (placed_at ws _ rests rested j l, placed_at ws _ rests rested k h))

    pub handed_out : (left : ℕ) (out : List ℕ) → left ≡ left_over amount ws → out ≡ by_place floors (λ k. get_or floors k 0 + cond (ltb (rank_among (λ i. get_or rests i 0) (length rests) k) left) 1 0) → out ≡ largest_remainder amount ws
    unfolding largest_share
    handed_out left out over e =
        let long = placed_length ws _ floors floored in
        fill_by_all (largest_share amount ws) out (length ws) 0 (placed_length floors _ out e ∙ long) (λ k h.
        let at : k < length floors = omega arith in
        placed_at floors _ out e k at ∙ rw (placed_at ws _ floors floored k h, rank_is k h, over))
