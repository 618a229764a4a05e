-- The largest remainder rule keeps the law. Assumes nothing.
use Rattle.std.specs.Prelude.{◌≡◌, ℕ, ◌+◌, ◌*◌, ◌/◌, ◌<◌, ◌≤◌, Bool, true, cond, List, length, sum, nat_lt, slice_index}
use Rattle.std.proofs.Common.{ap, ◌∙◌, le_of_mul-le-mul_right, arith}
use Rattle.std.proofs.Math.Logic.{inl, inr}
use Rattle.std.proofs.Math.Nat.{add-mul, mul_comm, mod-lt, div-add-mod', le_of_mul-le-mul_left}
use Rattle.std.proofs.lemmas.Bool.{cases_Bool, ltb-true, ltb-false}
use Rattle.std.proofs.lemmas.Bool.Decides.{nat_tests}
use Rattle.std.proofs.lemmas.List.FromFn.{length-map-range_with_len, get_or-map-range_with_len}
use Rattle.parting.specs.LargestRemainder.{floor_at, rest_at, left_over, precedes, rank_at, largest_remainder, largest_share}
use Rattle.parting.specs.Places.{adds, tally}
use Rattle.parting.specs.Rule.{Asked, Parted, apart}
use Rattle.parting.specs.Adding.{adds_same, adds_plus, adds_times, adds_le, adds_list, adds_by_place, tally_le, tally_most}
use Rattle.parting.specs.Ranking.{by_remainder, first_ranks}

module _ (amount : ℕ) (ws : List ℕ) (asked : Asked amount ws) where
  abbrev floor : ℕ → ℕ
  floor = floor_at amount ws

  abbrev rest : ℕ → ℕ
  rest = rest_at amount ws

  abbrev total : ℕ
  total = sum ws

  abbrev left : ℕ
  left = left_over amount ws

  abbrev gets : ℕ → Bool
  gets k = nat_lt (rank_at amount ws k) left

  -- each exact share is its floor and its rest
  pub split_at : (k : ℕ) → total * floor k + rest k ≡ amount * slice_index ws k
  unfolding floor_at rest_at
  split_at k = omega (arith, div-add-mod' (slice_index ws k * amount) total, mul_comm total (slice_index ws k * amount / total), mul_comm amount (slice_index ws k))

  pub rest_lt : (k : ℕ) → rest k < total
  unfolding rest_at
  rest_lt k = mod-lt (slice_index ws k * amount) asked.weighs

  -- all of them together
  splits : total * adds floor (length ws) + adds rest (length ws) ≡ amount * total
  splits =
      let each = adds_same (λ k. total * floor k + rest k) (λ k. amount * slice_index ws k) (length ws) (λ k l. split_at k) in
      let parts = adds_plus (λ k. total * floor k) rest (length ws) in
      let out = adds_times total floor (length ws) in
      let whole = adds_times amount (λ k. slice_index ws k) (length ws) in
      omega (arith, each, parts, out, whole, ap (λ x. amount * x) (adds_list (λ x. x) 0 ws))

  -- so the floors do not pass the amount, and what is left over is the rests together
  pub floors_le : adds floor (length ws) ≤ amount
  floors_le = le_of_mul-le-mul_left {k = total} (omega (arith, splits, mul_comm amount total)) asked.weighs

  pub left_is : left + adds floor (length ws) ≡ amount
  unfolding left_over
  left_is = omega (arith, floors_le)

  left_rests : left * total ≡ adds rest (length ws)
  left_rests = omega (arith, splits, add-mul left (adds floor (length ws)) total, ap (λ x. x * total) left_is, mul_comm total (adds floor (length ws)))

  -- no more is left over than there are rests that are not 0
  abbrev some : ℕ → Bool
  some k = nat_lt 0 (rest k)

  some_most : (k : ℕ) → rest k ≤ total * cond (some k) 1 0
  some_most k = elim (cases_Bool (some k)) [
    | inl e ↦ rw e (omega (arith, rest_lt k))
    | inr e ↦ rw e (omega (arith, ltb-false 0 (rest k) e))
  ]

  left_le_some : left ≤ tally some (length ws)
  left_le_some =
      let most = adds_le rest (λ k. total * cond (some k) 1 0) (length ws) (λ k l. some_most k) in
      let out = adds_times total (λ k. cond (some k) 1 0) (length ws) in
      le_of_mul-le-mul_right {k = total} (omega (arith, most, out, left_rests, mul_comm total (tally some (length ws)))) asked.weighs

  -- who gets a paisa more has a rest
  pub gets_some : (k : ℕ) → gets k ≡ true → 0 < rest k
  unfolding rank_at
  gets_some k h = elim (cases_Bool (some k)) [
    | inl e ↦ ltb-true 0 (rest k) e
    | inr e ↦
        let nothing : rest k ≤ 0 = ltb-false 0 (rest k) e in
        let behind = tally_le some (precedes rest k) (length ws) (λ j l s. grind (arith, nat_tests)) in
        omega (arith, behind, left_le_some, ltb-true _ _ h)
  ]

  abbrev share : ℕ → ℕ
  share = largest_share amount ws

  paid : tally gets (length ws) ≡ left
  unfolding rank_at
  paid = first_ranks (precedes rest) (by_remainder rest) (length ws) left (omega (arith, left_le_some, tally_most some (length ws)))

  near_at : (k : ℕ) → apart (share k * total) (slice_index ws k * amount) < total
  unfolding largest_share
  near_at k = elim (cases_Bool (gets k)) [
    | inl e ↦ rw e (omega (arith, split_at k, rest_lt k, gets_some k e, mul_comm amount (slice_index ws k), mul_comm total (floor k), add-mul (floor k) 1 total))
    | inr e ↦ rw e (omega (arith, split_at k, rest_lt k, mul_comm amount (slice_index ws k), mul_comm total (floor k), add-mul (floor k) 0 total))
  ]

  pub largest_fair : Parted amount ws (largest_remainder amount ws)
  unfolding largest_share
  largest_fair = record {
    as_many = length-map-range_with_len _ 0 (length ws);
    together = adds_by_place share (length ws) ∙ omega (arith, adds_plus floor (λ k. cond (gets k) 1 0) (length ws), paid, left_is);
    near = λ k h. rw (get_or-map-range_with_len share 0 (length ws) k k 0 h (omega arith)) (near_at k);
  }
