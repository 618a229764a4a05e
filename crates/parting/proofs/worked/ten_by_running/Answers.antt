-- Ten paise by the running rule. Assumes nothing.
use Rattle.std.proofs.Common.{refl}
use Rattle.parting.specs.Running.{running_share, running_total}
use Rattle.parting.proofs.worked.ten_by_running.Goals as goal

pub returns : goal.returns
unfolding running_share running_total
returns c = record { answer = c.shares.ensures.answer; law = refl }
