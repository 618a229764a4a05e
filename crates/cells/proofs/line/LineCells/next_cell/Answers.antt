-- The cell that is taken, and what is left.
use Rattle.std.proofs.Common.{◌≡◌, ◌+◌, length, drop, Some, sym, refl, ap, ◌∙◌}
use Rattle.cells.proofs.Taking.{cell_first, cells_next, after_next}
use Rattle.cells.proofs.line.LineCells.next_cell.Goals as goal
use Rattle.cells.proofs.line.LineCells.next_cell.Goals.{After-len}
use Rattle.cells.specs.Cells.{cell_at}
use Rattle.cells.specs.Left.{first, others, cells_at, after_at}
use Rattle.cells.specs.Scans.{front}
use Rattle.std.proofs.lemmas.List.{take_rest}

-- where the cell ends
ends : (c : After-len) → c.in-Cell.at + c.len.result ≡ c.in-Cell.at + length (front (drop c.in-Cell.at c.args.self.now.bytes.now))
ends c =
    let bs = c.args.self.now.bytes.now in
    ap (λ n. c.in-Cell.at + n) (c.len.ensures.answer ∙ ap (λ s. s.len) c.cell_from-cell.ensures.answer ∙ ap (λ l. length (front l)) (take_rest bs c.in-Cell.at))

pub returns : goal.returns
returns c =
    let bs = c.args.self.now.bytes.now in
    let at = c.in-Cell.at in
    let h = ends (goal.at.returns c).After-len in
    let was = ap (λ n. cells_at n bs) c.in-Cell.is in
    let next = c.after-self.ensures.answer in
    record {
      answer = ap Some (c.cell_from-cell.ensures.answer ∙ ap (λ l. cell_at at (front l)) (take_rest bs at)) ∙ sym (ap first was ∙ cell_first bs at _ h);
      after = ap (λ n. cells_at n bs) next ∙ cells_next bs at _ h ∙ sym (ap others was);
      same = record { bytes = refl; lines = ap (λ n. after_at n bs) next ∙ after_next bs at _ h ∙ sym (ap (λ n. after_at n bs) c.in-Cell.is) };
    }
