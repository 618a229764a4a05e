-- The largest remainder rule writes its shares. Assumes nothing.
use Rattle.parting.proofs.HandingOut.{floors_small, handed_out, rests_small}
use Rattle.parting.proofs.largest_remainder.LargestRemainderPartingRule.part.Goals as goal

pub hand_out-requires-clause-rests : goal.hand_out-requires-clause-rests
hand_out-requires-clause-rests c = rests_small _ _ _ c.round_down-left.ensures.into_after _ c.round_down-left.ensures.rests_after c.requires.asked

pub hand_out-requires-clause-small : goal.hand_out-requires-clause-small
hand_out-requires-clause-small c = floors_small _ _ _ c.round_down-left.ensures.into_after c.requires.asked

pub returns : goal.returns
returns c =
    let rounded = c.round_down-left.ensures in
    record { after = handed_out _ _ _ rounded.into_after _ rounded.rests_after _ _ rounded.answer c.hand_out.ensures.after }
