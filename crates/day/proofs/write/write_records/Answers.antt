-- The places of the members, and the reserve's at the end.
use Rattle.std.proofs.Common.{ap, ◌∙◌, arith}
use Rattle.quantities.specs.Money.{money}
use Rattle.quantities.specs.declared.paise.Paise.{Paise}
use Rattle.day.specs.Records.{no_due}
use Rattle.day.specs.declared.record.Record.{Record}
use Rattle.day.proofs.Filling.{records_filled}
use Rattle.day.proofs.write.write_records.Goals as goal

with_line : Paise → Paise → Paise → Record
with_line base surcharge line = record { base = base; surcharge = surcharge; line = line }

pub returns : goal.returns
unfolding with_line
returns c =
    let zeros = c.default.ensures in
    let last = ap (λ x. with_line (money x) c.default.result.surcharge c.args.reserve) zeros.0 ∙ ap (λ x. with_line no_due.base (money x) c.args.reserve) zeros.1.0 in
    record { after = records_filled c.args.dues.now c.args.lines.now c.args.into.now c.loop-place.record-items _ c.args.reserve (omega arith) (omega arith) (λ k h. c.loop-place.invariant k (omega arith)) last }
