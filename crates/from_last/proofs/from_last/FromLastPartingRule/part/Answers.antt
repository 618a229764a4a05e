-- The rule from the last member on writes its shares. Assumes nothing.
use Rattle.std.proofs.Common.{◌+◌, ◌-◌, get_or, arith}
use Rattle.std.proofs.lemmas.List.FromFn.{fill_by_all}
use Rattle.parting.proofs.Bounds.{product_fits}
use Rattle.from_last.specs.FromLast.{share_from}
use Rattle.from_last.specs.FromLastLaw.{back_le, given_le, left_less, reached_lies, seen_more, share_is, written_back}
use Rattle.from_last.proofs.from_last.FromLastPartingRule.part.Goals as goal

pub overflow_add-seen : goal.overflow_add-seen
overflow_add-seen c =
    let seen = seen_more _ _ c.requires.asked _ _ _ c.loop-i.given c.loop-i-test.true c.loop-i.auto.i c.loop-i.invariant.0 c.loop-i.invariant.1 in
    omega (arith, seen, back_le _ _ c.requires.asked (c.loop-i.i - 1), c.requires.asked.total_most)

pub overflow_mul-reached : goal.overflow_mul-reached
overflow_mul-reached c =
    let more = seen_more _ _ c.requires.asked _ _ _ c.loop-i.given c.loop-i-test.true c.loop-i.auto.i c.loop-i.invariant.0 c.loop-i.invariant.1 in
    let seen = c.loop-i.seen + get_or c.args.weights.now (c.loop-i.i - 1) 0 in
    omega (arith, product_fits _ _ c.requires.asked seen (omega (arith, more, back_le _ _ c.requires.asked (c.loop-i.i - 1))))

pub overflow_sub-into : goal.overflow_sub-into
overflow_sub-into c =
    let inv = c.loop-i.invariant in
    given_le _ _ c.requires.asked _ _ _ _ c.loop-i-test.true c.loop-i.auto.i inv.0 inv.1 inv.2 inv.3

pub loop-i-preserved : goal.loop-i-preserved
loop-i-preserved c =
    let inv = c.loop-i.invariant in
    let asked = c.requires.asked in
    let some = c.loop-i-test.true in
    let within = c.loop-i.auto.i in
    let lies = reached_lies _ _ asked _ _ _ c.loop-i.given some within inv.0 inv.1 in (
      inv.0,
      left_less _ _ asked _ _ _ c.loop-i.given some within inv.0 inv.1,
      lies.0,
      lies.1,
      written_back (share_from c.args.amount c.args.weights.now) _ _ _ _ (omega arith) (λ k low high. inv.4 k (omega arith) high) (share_is _ _ asked _ _ _ _ some within inv.0 inv.1 inv.2 inv.3),
    )

pub returns : goal.returns
returns c = record { after = fill_by_all _ c.loop-i.into _ 0 (omega arith) (λ k h. c.loop-i.invariant.4 k (omega arith) h) }
