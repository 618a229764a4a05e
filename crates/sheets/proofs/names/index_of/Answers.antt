-- The place of a name.
use Rattle.std.proofs.Common.{◌∙◌, ℕ, List, Bor, rules, tests}
use Rattle.sheets.proofs.Indexes.{position_in}
use Rattle.sheets.proofs.names.index_of.Goals as goal
use Rattle.std.proofs.lemmas.Iterator.Search.{position_from_yields_List}
use Rattle.std.proofs.lemmas.Iterator.{YieldsList-from_slice}
use Rattle.std.specs.Str.{bytes_eq}

abbrev text : Bor (List ℕ) → List ℕ
text x = x.now

pub returns : goal.returns
returns c =
    let ns = c.args.names.now in
    let name = c.args.name.now in
    record { answer = position_from_yields_List (λ n. bytes_eq (text n) name) _ _ _ c.position.ensures.ran (YieldsList-from_slice ns cc) (λ x b q k. search (rules, tests)) ∙ position_in text (λ n. bytes_eq n name) ns }
