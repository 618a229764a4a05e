-- The running rule keeps the law. Assumes nothing.
use Rattle.std.specs.Prelude.{◌≡◌, ℕ, ◌+◌, ◌-◌, ◌*◌, ◌/◌, ◌<◌, ◌≤◌, List, length, take, sum, slice_index}
use Rattle.std.proofs.Math.Path.{sym, ap}
use Rattle.std.proofs.Common.{◌∙◌, zero-mul, arith}
use Rattle.std.proofs.Math.Nat.{div-eq_of_lt-le, mul-div_cancel_left, zero-div}
use Rattle.std.proofs.lemmas.List.Sums.{sum_by_more, sum_by-take-le}
use Rattle.std.proofs.lemmas.List.{take_all}
use Rattle.std.proofs.lemmas.List.FromFn.{length-map-range_with_len, get_or-map-range_with_len}
use Rattle.parting.specs.Rule.{Asked, Parted, apart}
use Rattle.parting.specs.Running.{running, running_share, running_total}
use Rattle.parting.specs.Adding.{adds_by_place}
use Rattle.parting.specs.Steps.{rounded, rounds_up, step_near, telescope}

module _ (amount : ℕ) (ws : List ℕ) (asked : Asked amount ws) where
  front : (k : ℕ) → k < length ws → sum (take (k + 1) ws) ≡ sum (take k ws) + slice_index ws k
  front k h = sum_by_more (λ x. x) ws k 0 h

  pub front_le : (k : ℕ) → k < length ws → sum (take k ws) + slice_index ws k ≤ sum ws
  front_le k h = omega (arith, front k h, sum_by-take-le (λ x. x) ws (k + 1))

  running_rises : (k : ℕ) → k < length ws → running_total amount ws k ≤ running_total amount ws (k + 1)
  unfolding running_total
  running_rises k h = rw (front k h) (rounds_up (sum (take k ws)) (slice_index ws k) amount (sum ws) asked.weighs)

  pub starts : running_total amount ws 0 ≡ 0
  unfolding running_total
  starts = ap (λ x. x / sum ws) (zero-mul amount) ∙ zero-div (sum ws)

  ends : running_total amount ws (length ws) ≡ amount
  unfolding running_total
  ends = ap (λ x. sum x * amount / sum ws) (take_all (length ws) ws (omega arith)) ∙ mul-div_cancel_left amount asked.weighs

  near_at : (k : ℕ) → k < length ws → apart (running_share amount ws k * sum ws) (slice_index ws k * amount) < sum ws
  unfolding running_share running_total
  near_at k h = rw (front k h) (step_near (sum (take k ws)) (slice_index ws k) amount (sum ws) asked.weighs)

  pub running_fair : Parted amount ws (running amount ws)
  unfolding running_share
  running_fair = record {
    as_many = length-map-range_with_len _ 0 (length ws);
    together = adds_by_place _ (length ws) ∙ omega (arith, telescope (running_total amount ws) (length ws) running_rises, starts, ends);
    near = λ k h. rw (get_or-map-range_with_len (running_share amount ws) 0 (length ws) k k 0 h (omega arith)) (near_at k h);
  }

  -- one turn of the code, which has given what the weights seen so far come to, rounded down
  module _ (k seen total given reached : ℕ) (within : k < length ws) (whole : total ≡ sum ws) (is : seen ≡ sum (take k ws)) (low : given * total ≤ seen * amount) (high : seen * amount < (given + 1) * total) (next : reached ≡ (seen + slice_index ws k) * amount / total) where
    pub seen_more : seen + slice_index ws k ≡ sum (take (k + 1) ws)
    seen_more = omega (arith, is, front k within)

    pub reached_lies : (reached * total ≤ (seen + slice_index ws k) * amount) × ((seen + slice_index ws k) * amount < (reached + 1) * total)
    reached_lies = rounded _ total reached (omega (arith, whole, asked.weighs)) next

    given_is : given ≡ running_total amount ws k
    unfolding running_total
    given_is = sym (rw (← whole, ← is) (div-eq_of_lt-le total low high))

    pub reached_is : reached ≡ running_total amount ws (k + 1)
    unfolding running_total
    reached_is = next ∙ rw (seen_more, whole)

    pub given_le : given ≤ reached
    given_le = omega (arith, given_is, reached_is, running_rises k within)

    pub share_is : reached - given ≡ running_share amount ws k
    unfolding running_share
    share_is = omega (arith, given_is, reached_is)
