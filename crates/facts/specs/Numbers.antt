-- The facts of six numbers that were given together. Assumes nothing.
use Rattle.std.specs.Prelude.{◌≡◌, Ok, Err, Result, MatchResult}
use Rattle.facts.specs.Facts.{Facts, plain}
use Rattle.facts.specs.Refusals.{facts_from}
use Rattle.facts.specs.declared.block_facts.BlockFacts.{BlockFacts}
use Rattle.facts.specs.declared.block_facts.FactsNumbers.{FactsNumbers}
use Rattle.facts.specs.declared.refusals.FactsRefusal.{FactsRefusal}

-- the facts of the numbers, or what they are refused with
abbrev pub facts_of_numbers : FactsNumbers → Result Facts FactsRefusal
facts_of_numbers n = facts_from n.kind n.scheduled n.metered n.available n.hz100 n.price

-- what the making of a block's facts comes to
abbrev pub AreFactsOf : FactsNumbers → Result BlockFacts FactsRefusal → Type 0
AreFactsOf n r = MatchResult r (λ b. facts_of_numbers n ≡ Ok (plain b)) (λ e. facts_of_numbers n ≡ Err e)
