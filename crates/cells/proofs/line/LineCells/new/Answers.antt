-- The first line of those left.
use Rattle.cells.proofs.Taking.{open_at}
use Rattle.cells.proofs.line.LineCells.new.Goals as goal
use Rattle.std.proofs.lemmas.Bool.Decides.{nat_tests}
use Rattle.std.proofs.lemmas.List.{drop_all}
use Rattle.std.proofs.Common.{arith}

pub returns-clause-answer : goal.returns-clause-answer
returns-clause-answer c =
    let some = open_at c.args.bytes.now c.args.at in
    let none = drop_all c.args.at c.args.bytes.now in
    grind (arith, nat_tests)
