-- The columns of the names.
use Rattle.std.proofs.Common.{◌≡◌, Bool, true, false, ◌||◌, eqb, length, position, take, sym, refl, ap, ◌∙◌, arith}
use Rattle.cells.proofs.Took.{Took, took}
use Rattle.cells.specs.Shown.{shown}
use Rattle.sheets.proofs.Indexes.{found, not_found, has_any}
use Rattle.sheets.proofs.Listing.{refused, step}
use Rattle.sheets.proofs.names.columns_of.Given as given
use Rattle.sheets.proofs.names.columns_of.Goals as goal
use Rattle.sheets.proofs.names.columns_of.Goals.{After-index_of, After-is_taken}
use Rattle.sheets.specs.Columns.{index_of, has}
use Rattle.sheets.specs.Listed.{column_list}
use Rattle.std.proofs.lemmas.Bool.{eq-eqb, ne_eqb, or_from}
use Rattle.std.specs.Option.{option_map}
use Rattle.std.specs.Str.{bytes_eq}

-- the cell that was taken
cell : (g : given.Over) (c : After-index_of g) → Took c.loop-i.cells c.next_cell.new.self (shown c.in_ok-cell.cell)
cell g c = took c.loop-i.cells c.next_cell.new.self (shown c.in_ok-cell.cell) c.in_ok-cell.ensures.answer c.next_cell.ensures.after

-- the place of its name
index : (g : given.Over) (c : After-index_of g) → c.index_of.result ≡ position (λ n. bytes_eq n (shown c.in_ok-cell.cell).bytes) g.K.SheetKind.table.names
index g c =
    let ns = c.names-names.ensures.answer in
    let b = c.bytes.ensures.answer in
    c.index_of.ensures.answer ∙ (λ t. position (λ n. bytes_eq n (b t)) (ns t))

or_true : (b : Bool) {d : Bool} → d ≡ true → (b || d) ≡ true
or_true true e = refl
or_true false e = e

pub returns-in_err-k : goal.returns-in_err-k
returns-in_err-k g c =
    let k = (goal.at.returns-in_err-k g c).After-index_of in
    let e = not_found g.K.SheetKind.table.names (shown c.in_ok-cell.cell).bytes (sym c.in_err-k.was ∙ index g k) in
    record { answer = ap (option_map column_list) c.from_residual-in_err-k.ensures ∙ refused c.loop-i.invariant (index_of g.K.SheetKind.table.names (shown c.in_ok-cell.cell).bytes) _ _ (cell g k).were refl (ap (λ b. b || has (index_of g.K.SheetKind.table.names (shown c.in_ok-cell.cell).bytes) (take c.loop-i.i c.loop-i.at)) (eq-eqb _ _ e)) }

pub returns-then-is_taken : goal.returns-then-is_taken
returns-then-is_taken g c =
    let k = (goal.at.returns-then-is_taken g c).After-index_of in
    let e = found g.K.SheetKind.table.names (shown c.in_ok-cell.cell).bytes c.in_ok-k.k (sym c.in_ok-k.was ∙ index g k) in
    record { answer = refused c.loop-i.invariant c.in_ok-k.k _ _ (cell g k).were e.0 (or_true (eqb c.in_ok-k.k (length g.K.SheetKind.table.names)) (sym (has_any c.in_ok-k.k (take c.loop-i.i c.loop-i.at)) ∙ sym c.if-is_taken.ensures.answer)) }

pub loop-i-preserved : goal.loop-i-preserved
loop-i-preserved g c =
    let k = (goal.at.loop-i-preserved g c).After-index_of in
    let e = found g.K.SheetKind.table.names (shown c.in_ok-cell.cell).bytes c.in_ok-k.k (sym c.in_ok-k.was ∙ index g k) in
    step c.loop-i.invariant c.in_ok-k.k _ _ (cell g k).were e.0 (omega (arith, c.names-names.ensures.few)) e.1 (or_from _ _ (ne_eqb c.in_ok-k.k (length g.K.SheetKind.table.names) (omega (arith, e.1))) (sym (has_any c.in_ok-k.k (take c.loop-i.i c.loop-i.at)) ∙ sym c.if-is_taken.ensures.answer))
