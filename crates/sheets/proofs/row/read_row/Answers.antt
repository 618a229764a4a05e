-- The row of the cells.
use Rattle.std.proofs.Common.{◌≡◌, ◌+◌, ◌<◌, length, get_or, Some, Ok, Option, sym, ap, ◌∙◌, arith, rules}
use Rattle.cells.proofs.Took.{took, none_left}
use Rattle.cells.specs.Cells.{texts}
use Rattle.cells.specs.Left.{cells_left}
use Rattle.cells.specs.Shown.{shown}
use Rattle.sheets.proofs.Reading.{step, done}
use Rattle.sheets.proofs.row.read_row.Given as given
use Rattle.sheets.proofs.row.read_row.Goals as goal
use Rattle.sheets.proofs.row.read_row.Goals.{After-put, After-places-column-items}
use Rattle.sheets.specs.Listed.{column_list}
use Rattle.sheets.specs.Rows.{value_of}
use Rattle.sheets.specs.Values.{put_value}
use Rattle.std.proofs.lemmas.List.{get_or-take, length-take-le}
use Rattle.std.specs.Option.{ok_or, option_map}

long : (g : given.Over) (c : After-places-column-items g) → length (column_list c.args.columns.now) ≡ c.args.columns.now.len
long g c =
    let full : length c.args.columns.now.at ≡ 8 = search rules in
    length-take-le c.args.columns.now.len c.args.columns.now.at (omega (arith, c.args.columns.now.few, full))

was_some : {X E : Type 0} (o : Option X) (e : E) (x : X) → Ok x ≡ ok_or o e → o ≡ Some x
was_some o e x h = grind arith

pub loop-i-preserved : goal.loop-i-preserved
loop-i-preserved g c =
    let l = long g (goal.at.loop-i-preserved g c).After-places-column-items in
    let list = c.places-column-items.ensures.answer in
    let o = c.loop-i.invariant in
    let t = took c.loop-i.cells c.next_cell.new.self (shown c.in_ok-cell.cell) (sym (ap (option_map shown) (was_some _ _ _ (sym c.in_ok-cell.was ∙ c.ok_or.ensures.value))) ∙ c.next_cell.ensures.answer) c.next_cell.ensures.after in
    let same = c.next_cell.ensures.same in
    let more : c.loop-i.i < c.args.columns.now.len = omega (arith, l, ap length list, c.loop-i-test.true) in
    let k = get_or-take c.args.columns.now.len c.args.columns.now.at c.loop-i.i 0 more in
    let at = ap (λ ks. get_or ks c.loop-i.i 0) list in
    let n = c.sheet-sheet.ensures.answer in
    let m = t.means in
    let may = c.may_be_empty.ensures.answer ∙ ap g.K.SheetKind.table.optional at in
    let v = c.value_of.ensures.answer ∙ (λ i. value_of (m i) (may i) (record { sheet = n i; line = c.args.number; cell = c.loop-i.i + 1 })) in (
      step g.K.SheetKind.table c.args.number (column_list c.args.columns.now) (texts (cells_left c.args.cells.now)) c.args.columns.now.len l c.args.columns.now.few o.0 _ _ t.were more (omega (arith, k, c.args.columns.now.inside c.loop-i.i more)) c.value_of.result c.put.new.self v (c.put.ensures.after ∙ ap (λ j. put_value c.loop-i.values j c.value_of.result) at),
      record { bytes = same.bytes ∙ o.1.bytes; lines = same.lines ∙ o.1.lines },
    )

pub returns-clause-answer : goal.returns-clause-answer
returns-clause-answer g c =
    let l = long g (goal.at.returns-clause-answer g c).After-places-column-items in
    let none = none_left (cells_left c.loop-i.cells) (sym c.if-has_cell.ensures.answer) in
    ap Ok c.row.ensures.answer ∙ done g.K.SheetKind.table c.args.number (column_list c.args.columns.now) (texts (cells_left c.args.cells.now)) c.args.columns.now.len l c.args.columns.now.few c.loop-i.invariant.0 g.K.SheetKind.row_of none (omega (arith, l, ap length c.places-column-items.ensures.answer)) c.in_ok-values.was
