-- One record more, and the end.
use Rattle.day.specs.Records.{nothing}
use Rattle.host_calls.proofs.Putting.{rows_more, rows_end}
use Rattle.host_calls.proofs.calls.put_records.Goals as goal
use Rattle.host_calls.specs.Called.{record_numbers}
use Rattle.std.proofs.Common.{arith, ◌∙◌}

pub loop-record-preserved : goal.loop-record-preserved
loop-record-preserved c = (
  rows_more record_numbers _ _ _ c.args.records.now c.loop-record.record-index nothing c.loop-record-test.true c.put_record.ensures.after c.loop-record.invariant.0,
  c.put_record.ensures.same ∙ c.loop-record.invariant.1,
)

pub returns : goal.returns
returns c = record {
  after = rows_end record_numbers _ _ c.args.records.now c.loop-record.record-index (omega arith) c.loop-record.invariant.0;
  same = c.loop-record.invariant.1;
}
