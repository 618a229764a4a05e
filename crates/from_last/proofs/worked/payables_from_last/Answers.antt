-- The payables by the rule from the last member on. Assumes nothing.
use Rattle.std.proofs.Common.{refl}
use Rattle.from_last.specs.FromLast.{share_from, total_from}
use Rattle.from_last.proofs.worked.payables_from_last.Goals as goal

pub returns : goal.returns
unfolding share_from total_from
returns c = record { answer = c.part.ensures.after; law = refl }
