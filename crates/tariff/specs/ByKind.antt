-- One tariff for a kind, and another for all others. Assumes nothing.
use Rattle.std.specs.Prelude.{cond, ℤ}
use Rattle.facts.specs.Facts.{Facts}
use Rattle.facts.specs.Kinds.{same_kind}
use Rattle.facts.specs.declared.kinds.Kind.{Kind}

abbrev pub by_kind_charge : Kind → (Facts → ℤ) → (Facts → ℤ) → Facts → ℤ
by_kind_charge k first rest f = cond (same_kind f.kind k) (first f) (rest f)
