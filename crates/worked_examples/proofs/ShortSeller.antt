-- The seller of 20,000 scheduled and 17,000 metered at 49.80 Hz. Assumes nothing.
use Rattle.std.proofs.Common.{◌≡◌, ℤ, pos, Ok, refl, ap, ◌∙◌}
use Rattle.facts.specs.Facts.{Facts}
use Rattle.facts.specs.Refusals.{facts_from, facts_of}
use Rattle.facts.specs.declared.kinds.Kind.TheVariants.{Seller}
use Rattle.tariff.specs.Volume.{volume_limit}
use Rattle.house.specs.Pile.{house_charge}

abbrev short : Facts
short = facts_of Seller (pos 20000) (pos 17000) (pos 0) (pos 4980) (pos 4000)

by_hand : house_charge short ≡ pos 1230216
unfolding volume_limit
by_hand = refl

pub short_charge : (s m f : ℤ) (x : Facts) → s ≡ pos 20000 → m ≡ pos 17000 → f ≡ pos 4980 → facts_from (pos 2) s m (pos 0) f (pos 4000) ≡ Ok x → house_charge x ≡ pos 1230216
short_charge s m f x hs hm hf read =
    let e : facts_from (pos 2) (pos 20000) (pos 17000) (pos 0) (pos 4980) (pos 4000) ≡ Ok x = rw (hs, hm, hf) at read in
    let same : x ≡ short = cc in
    ap house_charge same ∙ by_hand
