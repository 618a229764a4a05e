-- The columns, and the law of the names.
use Rattle.cells.proofs.Took.{texts_placed}
use Rattle.cells.specs.Cells.{texts}
use Rattle.sheet_kinds.specs.declared.fault.SheetFault.TheVariants.{Names}
use Rattle.sheets.proofs.Orders.{any_order}
use Rattle.sheets.proofs.states.UnnamedSheet.check_names.Goals as goal
use Rattle.sheets.specs.Columns.{columns_of}
use Rattle.sheets.specs.Listed.{column_list}
use Rattle.sheets.specs.Rows.{map_ok}
use Rattle.sheets.specs.Sheets.{or_names}
use Rattle.sheets.specs.declared.columns.Columns.{Columns}
use Rattle.std.proofs.Common.{◌≡◌, ℕ, Some, None, Option, refl, ap, ◌∙◌}
use Rattle.std.specs.Option.{ok_or, option_map}

or_fault : (number : ℕ) (o : Option Columns) → map_ok column_list (ok_or o (Names number)) ≡ or_names number (option_map column_list o)
or_fault number (Some columns) = refl
or_fault number None = refl

pub returns-clause-answer : goal.returns-clause-answer
returns-clause-answer g c =
    let table = g.K.SheetKind.table in
    ap (map_ok column_list) (c.ok_or.ensures.value ∙ ap (λ n. ok_or c.columns_of.result (Names n)) c.sheet.ensures.answer)
    ∙ or_fault table.number c.columns_of.result
    ∙ ap (or_names table.number) (c.columns_of.ensures.answer ∙ ap (columns_of table.names) (ap texts c.new.ensures.answer ∙ texts_placed _ _))

pub returns-clause-law : goal.returns-clause-law
returns-clause-law g c = any_order g.K.SheetKind.table.names g.met.K.SheetKind.names_apart
