-- Which numbers of a call are the facts of a block, and what others are refused with. Assumes nothing.
use Rattle.std.specs.Prelude.{ℕ, Bool, cond, ◌&&◌, List, ℤ, Some, None, Ok, Err, codes, Option, Result, unsigned_abs}
use Rattle.quantities.specs.Limits.{within, most_kwh, least_hz100, most_hz100, most_rate}
use Rattle.facts.specs.Kinds.{kind_of, least_available, most_available}
use Rattle.facts.specs.Facts.{Facts}
use Rattle.facts.specs.declared.kinds.Kind.{Kind}
use Rattle.facts.specs.declared.refusals.FactsRefusal.{FactsRefusal}
use Rattle.facts.specs.declared.refusals.FactsRefusal.TheVariants.{UnknownKind, OutsideLimit}

abbrev pub refusal_number : FactsRefusal → ℕ
refusal_number UnknownKind = 3
refusal_number OutsideLimit = 4

-- what is said of a refusal
abbrev pub refusal_words : FactsRefusal → List ℕ
refusal_words UnknownKind = codes "the kind is none of those that deviate"
refusal_words OutsideLimit = codes "a number is outside its limit"

-- scheduled, metered and available energy of a kind
abbrev pub reading_fits : Kind → ℤ → ℤ → ℤ → Bool
reading_fits k scheduled metered available =
    within 0 most_kwh scheduled
    && (within 0 most_kwh metered && within (least_available k) (most_available k) available)

-- frequency and price
abbrev pub grid_fits : ℤ → ℤ → Bool
grid_fits hz100 price = within least_hz100 most_hz100 hz100 && within 0 most_rate price

-- all that a kind's facts are tested for
abbrev pub facts_fit : Kind → ℤ → ℤ → ℤ → ℤ → ℤ → Bool
facts_fit k scheduled metered available hz100 price = reading_fits k scheduled metered available && grid_fits hz100 price

abbrev pub facts_of : Kind → ℤ → ℤ → ℤ → ℤ → ℤ → Facts
facts_of k scheduled metered available hz100 price = record {
  kind = k;
  scheduled = unsigned_abs scheduled;
  metered = unsigned_abs metered;
  available = unsigned_abs available;
  hz100 = unsigned_abs hz100;
  price = unsigned_abs price;
}

abbrev facts_of_kind : Option Kind → ℤ → ℤ → ℤ → ℤ → ℤ → Result Facts FactsRefusal
facts_of_kind None scheduled metered available hz100 price = Err UnknownKind
facts_of_kind (Some k) scheduled metered available hz100 price =
    cond (facts_fit k scheduled metered available hz100 price)
    (Ok (facts_of k scheduled metered available hz100 price))
    (Err OutsideLimit)

-- the kind is tested first, then every limit
abbrev pub facts_from : ℤ → ℤ → ℤ → ℤ → ℤ → ℤ → Result Facts FactsRefusal
facts_from kind = facts_of_kind (kind_of kind)
