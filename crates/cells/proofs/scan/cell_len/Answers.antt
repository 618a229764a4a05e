-- The first comma or line feed ends the cell.
use Rattle.cells.proofs.Fronts.{place_or_len}
use Rattle.cells.proofs.scan.cell_len.Goals as goal
use Rattle.cells.specs.Scans.{is_stop}
use Rattle.std.proofs.Common.{length, ap, ◌∙◌, rules, tests}
use Rattle.std.proofs.lemmas.Iterator.Search.{position_from_yields_List}
use Rattle.std.proofs.lemmas.Iterator.{YieldsList-from_slice}
use Rattle.std.specs.Option.{unwrap_or}

pub returns : goal.returns
returns c =
    let bs = c.args.rest.now in
    let p = position_from_yields_List is_stop _ _ _ c.position.ensures.ran (YieldsList-from_slice bs cc) (λ x b q k. search (rules, tests)) in
    record { answer = c.unwrap_or.ensures ∙ ap (λ o. unwrap_or o (length bs)) p ∙ place_or_len bs }
