-- The running rule from the last member on keeps the law. Assumes nothing.
use Rattle.std.specs.Prelude.{◌≡◌, ℕ, zero, suc, ◌+◌, ◌-◌, ◌*◌, ◌/◌, ◌<◌, ◌≤◌, List, length, drop, sum, slice_index, slice_set, refl}
use Rattle.std.proofs.Math.Path.{sym, ap}
use Rattle.std.proofs.Common.{◌∙◌, inl, inr, zero-mul, add-one, arith}
use Rattle.std.proofs.Math.Nat.{div-eq_of_lt-le, mul-div_cancel_left, zero-div}
use Rattle.std.proofs.lemmas.List.FromFn.{length-map-range_with_len, get_or-map-range_with_len}
use Rattle.std.proofs.lemmas.List.{drop_all, get_or-set_other, get_or-set_same}
use Rattle.std.proofs.lemmas.List.Sums.{sum_by-drop_more, sum_by-take-drop}
use Rattle.std.proofs.lemmas.Bool.{cases_eq}
use Rattle.parting.specs.Places.{adds}
use Rattle.parting.specs.Rule.{Asked, Parted, apart}
use Rattle.parting.specs.Adding.{adds_by_place, adds_front, adds_list, adds_more}
use Rattle.parting.specs.Steps.{rounded, rounds_up, step_near}
use Rattle.from_last.specs.FromLast.{from_last, share_from, total_from}

-- one place more of a list that is written from its end
pub written_back : (f : ℕ → ℕ) (xs : List ℕ) (k v n : ℕ) → k < length xs → ((j : ℕ) → k + 1 ≤ j → j < n → slice_index xs j ≡ f j) → v ≡ f k → (j : ℕ) → k ≤ j → j < n → slice_index (slice_set xs k v) j ≡ f j
written_back f xs k v n l after is j low high = elim (cases_eq j k) [
  | inl e ↦ rw e (get_or-set_same xs k v 0 l ∙ is)
  | inr ne ↦ get_or-set_other xs k j v 0 ne ∙ after j (omega arith) high
]

-- steps of what never rises add up to what it loses
telescope_down : (f : ℕ → ℕ) (n : ℕ) → ((k : ℕ) → k < n → f (k + 1) ≤ f k) → adds (λ k. f k - f (k + 1)) n + f n ≡ f 0
telescope_down f zero h = omega arith
telescope_down f (suc n) h = omega (arith, telescope_down f n (λ k l. h k (omega arith)), h n (omega arith), ap f (add-one n))

module _ (amount : ℕ) (ws : List ℕ) (asked : Asked amount ws) where
  back : (k : ℕ) → k < length ws → sum (drop k ws) ≡ sum (drop (k + 1) ws) + slice_index ws k
  back k h = omega (arith, sum_by-drop_more (λ x. x) ws k 0 h)

  pub back_le : (k : ℕ) → sum (drop k ws) ≤ sum ws
  back_le k = omega (arith, sum_by-take-drop (λ x. x) ws k)

  total_falls : (k : ℕ) → k < length ws → total_from amount ws (k + 1) ≤ total_from amount ws k
  unfolding total_from
  total_falls k h = rw (back k h) (rounds_up (sum (drop (k + 1) ws)) (slice_index ws k) amount (sum ws) asked.weighs)

  starts : total_from amount ws (length ws) ≡ 0
  unfolding total_from
  starts = ap (λ x. sum x * amount / sum ws) (drop_all (length ws) ws (omega arith)) ∙ ap (λ x. x / sum ws) (zero-mul amount) ∙ zero-div (sum ws)

  ends : total_from amount ws 0 ≡ amount
  unfolding total_from
  ends = mul-div_cancel_left amount asked.weighs

  near_at : (k : ℕ) → k < length ws → apart (share_from amount ws k * sum ws) (slice_index ws k * amount) < sum ws
  unfolding share_from total_from
  near_at k h = rw (back k h) (step_near (sum (drop (k + 1) ws)) (slice_index ws k) amount (sum ws) asked.weighs)

  pub from_last_fair : Parted amount ws (from_last amount ws)
  unfolding share_from
  from_last_fair = record {
    as_many = length-map-range_with_len _ 0 (length ws);
    together = adds_by_place _ (length ws) ∙ omega (arith, telescope_down (total_from amount ws) (length ws) total_falls, starts, ends);
    near = λ k h. rw (get_or-map-range_with_len (share_from amount ws) 0 (length ws) k k 0 h (omega arith)) (near_at k h);
  }

  -- one turn of the code at the place before i, which has given what the weights seen so far come to, rounded down
  module _ (i seen total given : ℕ) (some : 0 < i) (within : i ≤ length ws) (whole : total ≡ sum ws) (left : seen + adds (λ k. slice_index ws k) i ≡ adds (λ k. slice_index ws k) (length ws)) where
    same_place : i - 1 + 1 ≡ i
    same_place = omega arith

    is : seen ≡ sum (drop i ws)
    is = omega (arith, adds_front (λ x. x) 0 ws i within, adds_list (λ x. x) 0 ws, sum_by-take-drop (λ x. x) ws i)

    pub left_less : seen + slice_index ws (i - 1) + adds (λ k. slice_index ws k) (i - 1) ≡ adds (λ k. slice_index ws k) (length ws)
    left_less = omega (arith, adds_more (λ k. slice_index ws k) (i - 1), ap (adds (λ k. slice_index ws k)) same_place)

    pub seen_more : seen + slice_index ws (i - 1) ≡ sum (drop (i - 1) ws)
    seen_more = omega (arith, is, back (i - 1) (omega arith), ap (λ n. sum (drop n ws)) same_place)

    pub reached_lies : ((seen + slice_index ws (i - 1)) * amount / total * total ≤ (seen + slice_index ws (i - 1)) * amount) × ((seen + slice_index ws (i - 1)) * amount < ((seen + slice_index ws (i - 1)) * amount / total + 1) * total)
    reached_lies = rounded _ total _ (omega (arith, whole, asked.weighs)) refl

    reached_is : (seen + slice_index ws (i - 1)) * amount / total ≡ total_from amount ws (i - 1)
    unfolding total_from
    reached_is = rw (seen_more, whole)

    module _ (low : given * total ≤ seen * amount) (high : seen * amount < (given + 1) * total) where
      given_is : given ≡ total_from amount ws i
      unfolding total_from
      given_is = sym (rw (← whole, ← is) (div-eq_of_lt-le total low high))

      pub given_le : given ≤ (seen + slice_index ws (i - 1)) * amount / total
      given_le = omega (arith, given_is, reached_is, total_falls (i - 1) (omega arith), ap (total_from amount ws) same_place)

      pub share_is : (seen + slice_index ws (i - 1)) * amount / total - given ≡ share_from amount ws (i - 1)
      unfolding share_from
      share_is = omega (arith, given_is, reached_is, ap (total_from amount ws) same_place)
