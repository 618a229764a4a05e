-- The records of a day written into a table. Assumes nothing.
use Rattle.std.proofs.Common.{◌≡◌, ℕ, ◌+◌, ◌<◌, ◌≤◌, List, [], ◌∷◌, ◌++◌, map, length, get_or, drop, set, sym, refl, ap, ◌∙◌, arith}
use Rattle.quantities.specs.declared.paise.Paise.{Paise}
use Rattle.std.proofs.lemmas.List.FromFn.{fill_by_all}
use Rattle.std.proofs.lemmas.List.{append_assoc, drop_more, set_at}
use Rattle.std.specs.List.{range_with_len}
use Rattle.member_day.specs.declared.due.Due.{Due}
use Rattle.day.specs.Members.{most_members}
use Rattle.day.specs.Records.{no_due, nothing, record_at, record_count, record_of, records_by}
use Rattle.day.specs.declared.record.Record.{Record}

fill_step : {Y : Type 0} (P out : List Y) (i : ℕ) (y d : Y) → length P ≡ i → i < length out → set (P ++ drop i out) i y ≡ (P ++ (y ∷ [])) ++ drop (i + 1) out
fill_step P out i y d e h = ap (λ l. set (P ++ l) i y) (drop_more out i d h) ∙ (set_at P (get_or out i d) (drop (i + 1) out) y i e ∙ sym (append_assoc P (y ∷ []) (drop (i + 1) out)))

-- the members' places, and then the reserve's
pub records_filled : (ds : List Due) (ls : List Paise) (out places : List Record) (last : Record) (z : Paise) → record_count ≤ length out → length places ≡ most_members → ((k : ℕ) → k < most_members → get_or places k nothing ≡ record_at ds ls k) → last ≡ record_of no_due z
    → set (places ++ drop most_members out) most_members last ≡ records_by ds ls z ++ drop record_count out
unfolding records_by
records_filled ds ls out places last z room long each is =
    let all : places ≡ map (record_at ds ls) (range_with_len 0 most_members) = fill_by_all (record_at ds ls) places most_members nothing long each in
    ap (λ l. set (l ++ drop most_members out) most_members last) all
    ∙ (fill_step (map (record_at ds ls) (range_with_len 0 most_members)) out most_members last last refl (omega arith)
    ∙ ap (λ y. (map (record_at ds ls) (range_with_len 0 most_members) ++ (y ∷ [])) ++ drop record_count out) is)
