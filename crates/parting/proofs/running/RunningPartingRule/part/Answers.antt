-- The running rule writes its shares. Assumes nothing.
use Rattle.std.proofs.Common.{◌+◌, get_or, arith}
use Rattle.std.proofs.lemmas.List.FromFn.{fill_by_all}
use Rattle.parting.specs.Running.{running_share}
use Rattle.parting.proofs.Bounds.{product_fits}
use Rattle.parting.specs.RunningLaw.{front_le, given_le, reached_lies, seen_more, share_is}
use Rattle.parting.proofs.Writing.{written}
use Rattle.parting.proofs.running.RunningPartingRule.part.Goals as goal

pub overflow_add-seen : goal.overflow_add-seen
overflow_add-seen c = omega (arith, c.loop-place.invariant.1, c.requires.asked.total_most, front_le _ _ c.requires.asked _ c.loop-place-test.true)

pub whole_paise-reached-requires : goal.whole_paise-reached-requires
whole_paise-reached-requires c =
    let seen = c.loop-place.seen + get_or c.args.weights.now c.loop-place.place 0 in
    record {
      weighs = omega (arith, c.loop-place.invariant.0, c.requires.asked.weighs);
      fits = product_fits _ _ c.requires.asked seen (omega (arith, c.loop-place.invariant.1, front_le _ _ c.requires.asked _ c.loop-place-test.true));
    }

pub overflow_sub-into : goal.overflow_sub-into
overflow_sub-into c =
    let inv = c.loop-place.invariant in
    given_le _ _ c.requires.asked _ _ _ _ _ c.loop-place-test.true inv.0 inv.1 inv.2 inv.3 c.whole_paise-reached.ensures.answer

pub loop-place-preserved : goal.loop-place-preserved
loop-place-preserved c =
    let inv = c.loop-place.invariant in
    let asked = c.requires.asked in
    let h = c.loop-place-test.true in
    let next = c.whole_paise-reached.ensures.answer in
    let lies = reached_lies _ _ asked _ _ _ _ _ h inv.0 inv.1 inv.2 inv.3 next in
    let share = share_is _ _ asked _ _ _ _ _ h inv.0 inv.1 inv.2 inv.3 next in (
      inv.0,
      seen_more _ _ asked _ _ _ _ _ h inv.0 inv.1 inv.2 inv.3 next,
      lies.0,
      lies.1,
      written 0 (running_share c.args.amount c.args.weights.now) _ _ _ (omega arith) inv.4 share,
    )

pub returns : goal.returns
returns c = record { after = fill_by_all (running_share c.args.amount c.args.weights.now) _ _ 0 (omega arith) (λ k h. c.loop-place.invariant.4 k (omega arith)) }
