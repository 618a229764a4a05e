-- The odd paise go to those with few members ahead. Assumes nothing.
use Rattle.std.proofs.Common.{arith}
use Rattle.std.proofs.lemmas.List.FromFn.{fill_by_all}
use Rattle.parting.proofs.largest_remainder.hand_out.Goals as goal

pub returns : goal.returns
returns c = record { after = fill_by_all _ c.loop-place.into _ 0 (omega arith) (λ k h. c.loop-place.invariant.0 k (omega arith)) }
