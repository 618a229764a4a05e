-- The sums over all charges. Assumes nothing.
use Rattle.std.proofs.Common.{◌≡◌, ◌-◌, ◌^◌, List, min, sum_by, subst, sym, ◌∙◌, ap, rules, arith}
use Rattle.std.proofs.lemmas.Fn.{fold_over, slice_gives, fronts}
use Rattle.std.proofs.lemmas.List.Sums.{sum_by_push, sum-map}
use Rattle.sharing.specs.Sides.{fixed_on, weight_on}
use Rattle.sharing.specs.declared.charge.Charge.{Charge}
use Rattle.sharing.specs.declared.sides.Sums.{Sums}
use Rattle.sharing.proofs.sides.held_sums.Goals as goal

pub returns : goal.returns
returns c =
    let s = c.args.side in
    let cs = c.args.charges.now in
    let Held : List Charge → Sums → Type 0 = λ xs n. (n.fixed ≡ min (sum_by (fixed_on s) xs) (2 ^ 64 - 1)) × (n.adjustable ≡ min (sum_by (weight_on s) xs) (2 ^ 64 - 1)) in
    let held : Held cs c.fold.result =
    subst (λ xs. Held xs c.fold.result) c.iter.ensures.rest
    (fold_over fronts (λ y. y.now) _ Held _ (λ ys a x b f' j k. let f = sum_by_push (fixed_on s) ys x.now in let w = sum_by_push (weight_on s) ys x.now in search rules)
    _ _ _ _ (slice_gives c.iter.result) (omega arith, omega arith) c.fold.ensures.ran) in
    record { fixed = held.0; adjustable = held.1 ∙ ap (λ n. min n (2 ^ 64 - 1)) (sym (sum-map (weight_on s) cs)) }
