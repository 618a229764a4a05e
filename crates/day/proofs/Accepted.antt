-- What is known of a day that is closed. Assumes nothing.
use Rattle.std.proofs.Common.{◌≡◌, ℕ, ◌≤◌, Bool, true, false, cond, ltb, List, length, ℤ, is_ok, Ok, Err, Option, Result, refl, arith}
use Rattle.std.proofs.lemmas.Bool.{ltb-false, or_parts}
use Rattle.facts.specs.Facts.{Facts}
use Rattle.member_day.specs.declared.entries.GridEntry.{GridEntry}
use Rattle.sharing.specs.Shares.{too_much}
use Rattle.day.specs.Dues.{charges_of, complete}
use Rattle.day.specs.Members.{most_members}
use Rattle.day.specs.Records.{closing, record_count, short}
use Rattle.day.specs.declared.member.Member.{Member}
use Rattle.day.specs.declared.unclosed.Unclosed.{Unclosed}
use Rattle.day.specs.declared.unclosed.Unclosed.TheVariants.{Missing, Short, TooMuch}

abbrev pub answer : Bool → Bool → Bool → Result (Unit {0}) Unclosed
answer whole few much = cond whole (cond few (Err Short) (cond much (Err TooMuch) (Ok tt))) (Err Missing)

pub accepted : (whole few much : Bool) → is_ok (answer whole few much) ≡ true → (few ≡ false) × (much ≡ false)
accepted false few much h = let z : ◌≡◌ {A = ℕ} 0 1 = cc in absurd (omega arith)
accepted true true much h = let z : ◌≡◌ {A = ℕ} 0 1 = cc in absurd (omega arith)
accepted true false true h = let z : ◌≡◌ {A = ℕ} 0 1 = cc in absurd (omega arith)
accepted true false false h = (refl, refl)

module _ (m : Facts → ℤ) (gs : List (Option GridEntry)) (ms : List Member) (records : ℕ) (ok : is_ok (closing m gs ms records) ≡ true) where
  both : (short ms records ≡ false) × (too_much (charges_of m gs ms) ≡ false)
  both = accepted (complete gs ms) (short ms records) (too_much (charges_of m gs ms)) ok

  pub few_members : length ms ≤ most_members
  few_members = ltb-false most_members (length ms) (or_parts (ltb records record_count) (ltb most_members (length ms)) both.0).1

  pub not_too_much : too_much (charges_of m gs ms) ≡ false
  not_too_much = both.1
