-- The shares rounded down, their remainders, and what is left over. Assumes nothing.
use Rattle.std.proofs.Common.{◌≡◌, ◌+◌, length, ap, ◌∙◌, arith}
use Rattle.std.proofs.lemmas.List.FromFn.{fill_by_all}
use Rattle.parting.specs.LargestRemainder.{floor_at, left_over, rest_at}
use Rattle.parting.specs.Places.{adds}
use Rattle.parting.specs.Adding.{adds_more}
use Rattle.parting.proofs.Bounds.{product_fits, weight_le}
use Rattle.parting.proofs.HandingOut.{floor_is, floors_front, rest_is}
use Rattle.parting.proofs.Writing.{written}
use Rattle.parting.proofs.largest_remainder.round_down.Goals as goal

pub whole_paise-floor-requires : goal.whole_paise-floor-requires
whole_paise-floor-requires c = record {
  weighs = omega (arith, c.loop-place.invariant.0, c.requires.asked.weighs);
  fits = product_fits _ _ c.requires.asked _ (weight_le _ _ c.requires.asked _ c.loop-place-test.true);
}

pub overflow_mul-rest : goal.overflow_mul-rest
overflow_mul-rest c = omega (arith, product_fits _ _ c.requires.asked _ (weight_le _ _ c.requires.asked _ c.loop-place-test.true))

pub overflow_sub-left : goal.overflow_sub-left
overflow_sub-left c =
    let floor = c.whole_paise-floor.ensures.answer ∙ floor_is c.args.amount c.args.weights.now c.loop-place.place _ c.loop-place.invariant.0 in
    let more = adds_more (floor_at c.args.amount c.args.weights.now) c.loop-place.place in
    omega (arith, floor, more, c.loop-place.invariant.1, floors_front _ _ c.requires.asked (c.loop-place.place + 1) (omega arith))

pub loop-place-preserved : goal.loop-place-preserved
loop-place-preserved c =
    let total = c.loop-place.invariant.0 in
    let floor = c.whole_paise-floor.ensures.answer ∙ floor_is c.args.amount c.args.weights.now c.loop-place.place _ total in
    let more = adds_more (floor_at c.args.amount c.args.weights.now) c.loop-place.place in (
      total,
      omega (arith, floor, more, c.loop-place.invariant.1, floors_front _ _ c.requires.asked (c.loop-place.place + 1) (omega arith)),
      written 0 (floor_at c.args.amount c.args.weights.now) _ _ _ (omega arith) c.loop-place.invariant.2 floor,
      written 0 (rest_at c.args.amount c.args.weights.now) _ _ _ (omega arith) c.loop-place.invariant.3 (rest_is _ _ _ _ total),
    )

pub returns : goal.returns
unfolding left_over
returns c =
    let all : c.loop-place.place ≡ length c.args.weights.now = omega arith in
    let given = ap (adds (floor_at c.args.amount c.args.weights.now)) all in
    record {
      answer = omega (arith, given, c.loop-place.invariant.1);
      into_after = fill_by_all _ c.loop-place.into _ 0 (omega arith) (λ k h. c.loop-place.invariant.2 k (omega arith));
      rests_after = fill_by_all _ c.loop-place.rests _ 0 (omega arith) (λ k h. c.loop-place.invariant.3 k (omega arith));
    }
