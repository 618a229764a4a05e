-- Ten paise by the largest remainder rule. Assumes nothing.
use Rattle.std.proofs.Common.{refl}
use Rattle.parting.specs.LargestRemainder.{floor_at, largest_share, left_over, rank_at, rest_at}
use Rattle.parting.proofs.worked.ten_by_largest_remainder.Goals as goal

pub returns : goal.returns
unfolding largest_share floor_at rest_at left_over rank_at
returns c = record { answer = c.shares.ensures.answer; law = refl }
