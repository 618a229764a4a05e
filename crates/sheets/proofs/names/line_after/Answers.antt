-- Fewer lines than bytes are left.
use Rattle.cells.specs.Cells.{lines}
use Rattle.cells.specs.Left.{others}
use Rattle.sheets.proofs.Openings.{lines_few, others_few}
use Rattle.sheets.proofs.names.line_after.Goals as goal
use Rattle.std.proofs.Common.{◌≡◌, length, drop, sym, ap, ◌∙◌, arith, length-drop}

pub returns : goal.returns
returns c =
    let bs = c.args.bytes.now in
    let after : lines (drop c.next_line.result bs) ≡ others (lines (drop c.args.start bs)) =
    sym (ap (λ x. lines (drop c.next_line.result x)) c.new.ensures.same) ∙ c.next_line.ensures.answer ∙ c.new.ensures.after in
    record {
      answer = after;
      few = omega (arith, ap length after, others_few (lines (drop c.args.start bs)), lines_few (drop c.args.start bs), length-drop c.args.start bs);
    }
