-- Three costs before rounding fit: each is within its bound.
use Rattle.std.proofs.Common.{rules, tests, arith}
use Rattle.std.proofs.lemmas.Iterator.{YieldsList-from_slice}
use Rattle.std.proofs.lemmas.Iterator.Adapters.{fits_from_length, at_most_from_yields_List}
use Rattle.quantities.proofs.paise.Paise.in_bands.Goals as goal

pub sum-thousandths-requires-clause-fits : goal.sum-thousandths-requires-clause-fits
sum-thousandths-requires-clause-fits c =
    fits_from_length _ _ 3 _ (at_most_from_yields_List (YieldsList-from_slice c.args.parts cc) (omega arith)) c.map.ensures.closure (omega arith) (λ x r q k. search (rules, tests))
