-- The two suppliers' piles charge alike: a buyer knows no cap and no ceiling. Assumes nothing.
use Rattle.std.proofs.Common.{◌≡◌, ℕ, ℤ, sym, refl, subst}
use Rattle.facts.specs.Facts.{Facts}
use Rattle.facts.specs.declared.kinds.Kind.{Kind}
use Rattle.facts.specs.declared.kinds.Kind.TheVariants.{Buyer, Seller, SolarWind}
use Rattle.day.specs.Alike.{AlikeTariffs}
use Rattle.house.specs.Pile.{house_charge}
use Rattle.tariff.specs.Bands.{bands_charge}
use Rattle.tariff.specs.ByKind.{by_kind_charge}
use Rattle.tariff.specs.Cap.{cap_charge}
use Rattle.tariff.specs.Ceiling.{ceiling_charge}
use Rattle.tariff.specs.Extra.{extra_charge}
use Rattle.tariff.specs.Vector.{vector_charge}
use Rattle.other_piles.specs.Flat.{flat_charge}
use Rattle.other_piles.specs.Pile.{unusual_charge}
use Rattle.two_suppliers.specs.Second.{second_charge}

abbrev facts_of : Kind → Facts → Facts
facts_of k f = record { kind = k; scheduled = f.scheduled; metered = f.metered; available = f.available; hz100 = f.hz100; price = f.price }

by_kind : (k : Kind) (f : Facts) → house_charge (facts_of k f) ≡ second_charge (facts_of k f)
by_kind Buyer f = refl
by_kind Seller f = refl
by_kind SolarWind f = refl

pub alike_piles : AlikeTariffs house_charge second_charge
alike_piles f _ = by_kind f.kind f

-- the piles as they are built, of kinds and a rate
abbrev pub house_of : Kind → ℕ → Facts → ℤ
house_of k rate = by_kind_charge k bands_charge (extra_charge (ceiling_charge (cap_charge rate vector_charge)))

abbrev pub second_of : Kind → Kind → ℕ → Facts → ℤ
second_of first second rate = by_kind_charge first (extra_charge vector_charge) (by_kind_charge second (extra_charge (ceiling_charge (cap_charge rate vector_charge))) bands_charge)

abbrev pub unusual_of : Kind → ℕ → ℕ → ℕ → Facts → ℤ
unusual_of k outer inner flat = cap_charge outer (extra_charge (by_kind_charge k (ceiling_charge vector_charge) (cap_charge inner (flat_charge flat))))

-- what holds of the pile that was built holds of the one that was meant, and the other way
pub as_house : (k : Kind) (rate : ℕ) (P : (Facts → ℤ) → Type 0) → k ≡ SolarWind → rate ≡ 3943 → P (house_of k rate) → P house_charge
as_house k rate P e f h = subst (λ x. P (house_of x 3943)) e (subst (λ x. P (house_of k x)) f h)

pub from_house : (k : Kind) (rate : ℕ) (P : (Facts → ℤ) → Type 0) → k ≡ SolarWind → rate ≡ 3943 → P house_charge → P (house_of k rate)
from_house k rate P e f h = subst (λ x. P (house_of k x)) (sym f) (subst (λ x. P (house_of x 3943)) (sym e) h)

pub as_second : (j k : Kind) (rate : ℕ) (P : (Facts → ℤ) → Type 0) → j ≡ Buyer → k ≡ Seller → rate ≡ 3943 → P (second_of j k rate) → P second_charge
as_second j k rate P d e f h = subst (λ x. P (second_of x Seller 3943)) d (subst (λ x. P (second_of j x 3943)) e (subst (λ x. P (second_of j k x)) f h))

pub from_second : (j k : Kind) (rate : ℕ) (P : (Facts → ℤ) → Type 0) → j ≡ Buyer → k ≡ Seller → rate ≡ 3943 → P second_charge → P (second_of j k rate)
from_second j k rate P d e f h = subst (λ x. P (second_of j k x)) (sym f) (subst (λ x. P (second_of j x 3943)) (sym e) (subst (λ x. P (second_of x Seller 3943)) (sym d) h))

pub as_unusual : (k : Kind) (outer inner flat : ℕ) (P : (Facts → ℤ) → Type 0) → k ≡ Seller → outer ≡ 5000 → inner ≡ 2000 → flat ≡ 3000 → P (unusual_of k outer inner flat) → P unusual_charge
as_unusual k outer inner flat P e o i f h =
    subst (λ x. P (unusual_of x 5000 2000 3000)) e (subst (λ x. P (unusual_of k x 2000 3000)) o (subst (λ x. P (unusual_of k outer x 3000)) i (subst (λ x. P (unusual_of k outer inner x)) f h)))
