-- The charge of the facts that were read.
use Rattle.std.proofs.Common.{◌∙◌}
use Rattle.std.proofs.lemmas.Int.{to_z-of_z}
use Rattle.worked_examples.proofs.ShortSeller.{short_charge}
use Rattle.worked_examples.proofs.by_hand.seller_at.Goals as goal

pub returns : goal.returns
returns c =
    let s = c.ranges.scheduled in
    let m = c.ranges.metered in
    let f = c.ranges.hz100 in
    let read = simp to_z-of_z at c.in_ok-facts.ensures.answer in
    record { answer = record { short = λ hs hm hf. c.house_charge.ensures.answer ∙ short_charge _ _ _ _ hs hm hf read } }
