-- The row of the next line.
use Rattle.std.proofs.Common.{◌≡◌, ◌+◌, Bool, true, false, drop, Err, sym, ap, ◌∙◌}
use Rattle.cells.specs.Cells.{lines, placed, texts}
use Rattle.cells.specs.Left.{others, first_cells, is_some_left, cells_left}
use Rattle.sheets.proofs.Nexts.{at_end, row_read, moved}
use Rattle.sheets.proofs.states.NamedSheet.next_row.Given as given
use Rattle.sheets.proofs.states.NamedSheet.next_row.Goals as goal
use Rattle.sheets.proofs.states.NamedSheet.next_row.Goals.{After-has_cell, After-next_line-self, After-read_row}
use Rattle.sheets.specs.Listed.{column_list}
use Rattle.sheets.specs.Rows.{map_ok, read_row, by_place}
use Rattle.std.proofs.lemmas.Result.{err_from_is_err_and}

-- whether a cell is left says whether a line is
there : (g : given.Over) (c : After-has_cell g) (b : Bool) → b ≡ is_some_left (cells_left c.new-cells.result) → is_some_left (placed c.args.self.now.at (first_cells (lines (drop c.args.self.now.at c.args.self.now.bytes.now)))) ≡ b
there g c b e = sym (e ∙ ap is_some_left c.new-cells.ensures.answer)

left : (g : given.Over) (c : After-next_line-self g) → lines (drop c.next_line-self.result c.args.self.now.bytes.now) ≡ others (lines (drop c.args.self.now.at c.args.self.now.bytes.now))
left g c =
    let same = c.read_row.ensures.same in
    ap (λ bs. lines (drop c.next_line-self.result bs)) (sym (same.bytes ∙ c.new-cells.ensures.same)) ∙ c.next_line-self.ensures.answer ∙ same.lines ∙ c.new-cells.ensures.after

pub returns-then-not-has_cell : goal.returns-then-not-has_cell
returns-then-not-has_cell g c =
    let e = at_end g.K.SheetKind.table g.K.SheetKind.row_of c.args.self.now.line (column_list c.args.self.now.columns) c.args.self.now.at (lines (drop c.args.self.now.at c.args.self.now.bytes.now)) (there g (goal.at.returns-then-not-has_cell g c).After-has_cell false c.if-not-has_cell.ensures.answer) in
    record { answer = e.0; after = e.1 }

-- the row of the first of the lines, or its fault
read : (g : given.Over) (c : After-read_row g) → c.read_row.result ≡ map_ok (λ v. g.K.SheetKind.row_of (by_place v)) (read_row g.K.SheetKind.table c.args.self.now.line (column_list c.args.self.now.columns) (texts (placed c.args.self.now.at (first_cells (lines (drop c.args.self.now.at c.args.self.now.bytes.now))))))
read g c =
    c.read_row.ensures.answer
    ∙ ap (λ cs. map_ok (λ v. g.K.SheetKind.row_of (by_place v)) (read_row g.K.SheetKind.table c.args.self.now.line (column_list c.args.self.now.columns) (texts cs))) c.new-cells.ensures.answer

pub returns-in_err-row-clause-answer : goal.returns-in_err-row-clause-answer
returns-in_err-row-clause-answer g c =
    let t = there g (goal.at.returns-in_err-row-clause-answer g c).After-has_cell true c.if-not-has_cell.ensures.answer in
    let a = sym c.in_err-row.was ∙ read g (goal.at.returns-in_err-row-clause-answer g c).After-read_row in
    let p = err_from_is_err_and c.from_residual.result c.from_residual.ensures.1 in
    p.1 ∙ ap Err p.2 ∙ row_read g.K.SheetKind.table g.K.SheetKind.row_of c.args.self.now.line (column_list c.args.self.now.columns) c.args.self.now.at (lines (drop c.args.self.now.at c.args.self.now.bytes.now)) _ t a

pub returns : goal.returns
returns g c =
    let t = there g (goal.at.returns g c).After-has_cell true c.if-not-has_cell.ensures.answer in
    let ls = lines (drop c.args.self.now.at c.args.self.now.bytes.now) in
    let a = sym c.in_ok-row.was ∙ read g (goal.at.returns g c).After-read_row in
    let e = left g (goal.at.returns g c).After-next_line-self in
    record {
      answer = row_read g.K.SheetKind.table g.K.SheetKind.row_of c.args.self.now.line (column_list c.args.self.now.columns) c.args.self.now.at ls _ t a;
      after = (λ i. record { left = e i; line = c.args.self.now.line + 1; columns = column_list c.args.self.now.columns }) ∙ moved g.K.SheetKind.table g.K.SheetKind.row_of c.args.self.now.line (column_list c.args.self.now.columns) c.args.self.now.at ls t;
    }
