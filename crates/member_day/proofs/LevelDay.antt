-- A member metered as scheduled is charged nothing. Assumes nothing.
use Rattle.std.proofs.Common.{◌≡◌, ℕ, ℤ, pos, IfSome, Some, None, Option, refl, ap, ◌∙◌, mul-zero, arith}
use Rattle.std.proofs.lemmas.Grind.{common_steps}
use Rattle.facts.specs.Facts.{Facts}
use Rattle.facts.specs.declared.kinds.Kind.{Kind}
use Rattle.facts.specs.declared.kinds.Kind.TheVariants.{Buyer, Seller, SolarWind}
use Rattle.quantities.specs.declared.paise.Paise.{Paise}
use Rattle.member_day.specs.Days.{surcharge_of}
use Rattle.member_day.specs.Entries.{facts_at}
use Rattle.member_day.specs.declared.entries.GridEntry.{GridEntry}
use Rattle.member_day.specs.declared.entries.ReadingEntry.{ReadingEntry}

pub level_at : (k : Kind) (r : Option ReadingEntry) (g : Option GridEntry) (f : Facts) → Some f ≡ facts_at k r g → IfSome r (λ e. e.metered ≡ e.scheduled) → f.metered ≡ f.scheduled
level_at k None g f e level = cc
level_at k (Some r) None f e level = cc
level_at k (Some r) (Some g) f e level = grind (arith, common_steps)

surcharge_none : (k : Kind) (n : ℕ) (base : ℤ) → base ≡ pos 0 → surcharge_of k n base ≡ 0
surcharge_none Buyer n base e = rw e (omega (arith, mul-zero n))
surcharge_none Seller n base e = rw e (omega (arith, mul-zero n))
surcharge_none SolarWind n base e = refl

pub nothing_due : (k : Kind) (n : ℕ) (base surcharge : Paise) → surcharge.paise ≡ pos (surcharge_of k n base.paise) → base.paise ≡ pos 0 → (base.paise ≡ pos 0) × (surcharge.paise ≡ pos 0)
nothing_due k n base surcharge s e = (e, s ∙ ap pos (surcharge_none k n base.paise e))
