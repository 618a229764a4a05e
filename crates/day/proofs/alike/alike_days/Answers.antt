-- The theorem itself.
use Rattle.day.proofs.AlikeDays.{alike_days}
use Rattle.day.proofs.alike.alike_days.Goals as goal

pub returns : goal.returns
returns c = record { law = alike_days }
