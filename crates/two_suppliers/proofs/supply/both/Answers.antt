-- The law of both runs, and alike days, since the piles charge alike and the rules give the same shares.
use Rattle.std.proofs.Common.{reverse, take, refl}
use Rattle.day.specs.Alike.{AlikeTariffs}
use Rattle.house.specs.Pile.{house_charge}
use Rattle.journal.specs.Law.{Lawful}
use Rattle.parting.specs.LargestRemainder.{largest_remainder}
use Rattle.two_suppliers.proofs.AlikePiles.{alike_piles, as_house, as_second, from_house, from_second, second_of}
use Rattle.two_suppliers.proofs.supply.both.Goals as goal

pub returns : goal.returns
returns c =
    let h = c.run_two.ensures in
    let a = c.house.ensures in
    let b = c.second_pile.ensures in
    let one = c.house.result in
    let two = c.second_pile.result in
    let rate = one.rest.below.below.rate.tenths in
    let rate' = two.rest.first.below.below.rate.tenths in
    let J = reverse (take c.run_two.result.0.1 c.run_two.new.journal) in
    let J' = reverse (take c.run_two.result.1.1 c.run_two.new.other_journal) in
    record {
      noted = h.noted;
      law = (
        as_house one.kind rate (λ m. Lawful m largest_remainder J) a.kind a.rate h.law.0,
        as_second two.kind two.rest.kind rate' (λ m. Lawful m largest_remainder J') b.buyer b.seller b.rate h.law.1,
      );
      same = h.same
          (from_house one.kind rate (λ m. AlikeTariffs m (second_of two.kind two.rest.kind rate')) a.kind a.rate
          (from_second two.kind two.rest.kind rate' (λ m. AlikeTariffs house_charge m) b.buyer b.seller b.rate alike_piles))
          (λ amount weights _. refl);
    }
