-- Days that are alike have equal answers and records. Assumes nothing.
use Rattle.std.proofs.Common.{◌≡◌, ℕ, ◌≤◌, true, false, cond, eqb, ltb, List, [], ◌∷◌, map, length, ℤ, Ok, Err, Option, sym, refl, ap, ◌∙◌, inl, inr, arith}
use Rattle.std.proofs.lemmas.List.{length-map}
use Rattle.std.proofs.lemmas.Bool.{cases_lt, cond-true, eq-eqb, or_parts, ltb-false}
use Rattle.facts.specs.Facts.{Facts}
use Rattle.member_day.specs.declared.entries.GridEntry.{GridEntry}
use Rattle.parting.specs.Rule.{Asked, most_weights}
use Rattle.quantities.specs.Limits.{most_money}
use Rattle.quantities.specs.declared.side.Side.{Side}
use Rattle.quantities.specs.declared.side.Side.TheVariants.{Payable, Receivable}
use Rattle.sharing.proofs.Summing.{parts_of_total}
use Rattle.sharing.specs.Shares.{lines_of, lines_by, shares_on, reserve, too_much}
use Rattle.sharing.specs.Sides.{total, adjustable, weights, weight_on, to_part, average_of, by_average}
use Rattle.sharing.specs.declared.charge.Charge.{Charge}
use Rattle.day.specs.Alike.{AlikeTariffs, AlikeRules, AlikeDays}
use Rattle.day.specs.Members.{most_members}
use Rattle.day.specs.Dues.{due_of, charge_of, charge_on, charges_of, complete}
use Rattle.day.specs.Records.{records_by, day_records, short}
use Rattle.day.specs.declared.member.Member.{Member}
use Rattle.day.specs.declared.unclosed.Unclosed.TheVariants.{Missing, Short, TooMuch}
use Rattle.day.proofs.Accepted.{few_members, not_too_much}
use Rattle.day.proofs.DayFacts.{due_alike}

map_alike : {X Y : Type 0} (p q : X → Y) (xs : List X) → ((x : X) → p x ≡ q x) → map p xs ≡ map q xs
map_alike p q [] same = refl
map_alike p q (x ∷ xs) same = ap (λ y. y ∷ map p xs) (same x) ∙ ap (λ ys. q x ∷ ys) (map_alike p q xs same)

module _ (g h : ℕ → List ℕ → List ℕ) (alike : AlikeRules g h) where
  shares_same : (s : Side) (cs : List Charge) → length cs ≤ most_weights → total s cs ≤ most_money → average_of cs ≤ most_money → shares_on g s cs ≡ shares_on h s cs
  shares_same s cs few most avg = elim (cases_lt 0 (adjustable s cs)) [
    | inl some ↦
        let asked : Asked (to_part s cs) (weights s cs) = record { amount_most = omega arith; few = omega (arith, length-map cs (weight_on s)); weighs = some; total_most = omega (arith, parts_of_total s cs) } in
        ap (cond (eqb (adjustable s cs) 0) (weights s cs)) (alike (to_part s cs) (weights s cs) asked)
    | inr none ↦
        let z : eqb (adjustable s cs) 0 ≡ true = eq-eqb (adjustable s cs) 0 (omega arith) in
        cond-true (eqb (adjustable s cs) 0) (weights s cs) (g (to_part s cs) (weights s cs)) z ∙ sym (cond-true (eqb (adjustable s cs) 0) (weights s cs) (h (to_part s cs) (weights s cs)) z)
  ]

  lines_same : (cs : List Charge) → length cs ≤ most_weights → too_much cs ≡ false → lines_of g cs ≡ lines_of h cs
  lines_same cs few small =
      let parts = or_parts (ltb most_money (total Payable cs)) (ltb most_money (total Receivable cs)) small in
      let mp = ltb-false most_money (total Payable cs) parts.0 in
      let mr = ltb-false most_money (total Receivable cs) parts.1 in
      ap (λ l. cond (by_average cs) (lines_by cs l (shares_on g Receivable cs)) (map (λ c. c.sum) cs)) (shares_same Payable cs few mp (omega arith))
      ∙ ap (λ l. cond (by_average cs) (lines_by cs (shares_on h Payable cs) l) (map (λ c. c.sum) cs)) (shares_same Receivable cs few mr (omega arith))

charges_alike : (m n : Facts → ℤ) → AlikeTariffs m n → (gs : List (Option GridEntry)) (ms : List Member) → charges_of m gs ms ≡ charges_of n gs ms
charges_alike m n tariffs gs ms = map_alike (charge_of m gs) (charge_of n gs) ms (λ mb. ap (charge_on mb) (due_alike m n tariffs gs mb))

-- the records of a day whose sides are within their limit, by alike tariffs and alike rules
pub alike_records : (m n : Facts → ℤ) (g h : ℕ → List ℕ → List ℕ) → AlikeTariffs m n → AlikeRules g h → (gs : List (Option GridEntry)) (ms : List Member) →
    length ms ≤ most_members → too_much (charges_of m gs ms) ≡ false → day_records m g gs ms ≡ day_records n h gs ms
alike_records m n g h tariffs rules gs ms few small =
    let dues = map_alike (due_of m gs) (due_of n gs) ms (due_alike m n tariffs gs) in
    let charges = charges_alike m n tariffs gs ms in
    ap (λ l. records_by l (lines_of g (charges_of m gs ms)) (reserve (charges_of m gs ms))) dues
    ∙ (ap (λ l. records_by (map (due_of n gs) ms) l (reserve (charges_of m gs ms))) (lines_same g h rules (charges_of m gs ms) (omega (arith, length-map ms (charge_of m gs))) small)
    ∙ ap (λ cs. records_by (map (due_of n gs) ms) (lines_of h cs) (reserve cs)) charges)

pub alike_days : AlikeDays
alike_days m n g h tariffs rules gs ms records = (
  ap (λ cs. cond (complete gs ms) (cond (short ms records) (Err Short) (cond (too_much cs) (Err TooMuch) (Ok tt))) (Err Missing)) (charges_alike m n tariffs gs ms),
  λ ok. alike_records m n g h tariffs rules gs ms (few_members m gs ms records ok) (not_too_much m gs ms records ok),
)
