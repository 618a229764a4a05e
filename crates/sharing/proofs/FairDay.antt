-- A shared day is fair. Assumes nothing.
use Rattle.std.proofs.Common.{◌≡◌, ℕ, zero, suc, ◌+◌, ◌*◌, ◌<◌, ◌≤◌, Bool, true, false, cond, ◌||◌, eqb, ltb, leb, List, [], ◌∷◌, map, length, get_or, ℤ, pos, negsuc, ◌-ℤ◌, ◌*ℤ◌, nat_abs, sum, sym, refl, ap, ◌∙◌, subst, inl, inr, mul-le-mul, zero-mul, arith}
use Rattle.std.proofs.lemmas.List.{length-map, get_or-map}
use Rattle.std.proofs.lemmas.Int.{ints}
use Rattle.std.proofs.lemmas.List.Sums.{sum_by-cons, get_or-le-sum_by}
use Rattle.std.proofs.lemmas.Bool.{cases_lt, cases_Bool, and_parts, or_cases, leb-true, ltb-true, eqb-true, or_parts, ltb-false, eq-eqb, ne_eqb, cond-true, cond-false}
use Rattle.parting.specs.Rule.{Asked, Parted, apart, most_weights}
use Rattle.quantities.specs.Limits.{most_money}
use Rattle.quantities.specs.Money.{magnitude, money}
use Rattle.sharing.specs.Laws.{together, charge_at, line_at, distance, Fair}
use Rattle.sharing.specs.Shares.{shares_on, with_sign, line_of, lines_by, lines_of, reserve, too_much}
use Rattle.sharing.specs.Sides.{on, fixed_on, weight_on, total, fixed_part, weights, adjustable, average_of, to_part, reaches, by_average, no_charge}
use Rattle.sharing.specs.declared.charge.Charge.{Charge}
use Rattle.quantities.specs.declared.side.Side.{Side}
use Rattle.quantities.specs.declared.side.Side.TheVariants.{Payable, Receivable}
use Rattle.sharing.proofs.Lining.{length_lines, lines_at}
use Rattle.sharing.proofs.Summing.{parts_of_total}

-- ---- one line

line_parts : (b : Bool) (z : ℤ) (p r : ℕ) → (cond b 0 (magnitude Payable z) ≡ 0 → p ≡ 0) → (cond b 0 (magnitude Receivable z) ≡ 0 → r ≡ 0)
    → cond b z (with_sign z p r) ≡ pos (cond b (magnitude Payable z) 0 + p) -ℤ pos (cond b (magnitude Receivable z) 0 + r)
line_parts true (pos n) p r hp hr = let a = hp refl in let b = hr refl in omega (arith, ints)
line_parts true (negsuc n) p r hp hr = let a = hp refl in let b = hr refl in omega (arith, ints)
line_parts false (pos zero) p r hp hr = let a = hp refl in let b = hr refl in omega (arith, ints)
line_parts false (pos (suc n)) p r hp hr = let b = hr refl in omega (arith, ints)
line_parts false (negsuc n) p r hp hr = let a = hp refl in omega (arith, ints)

line_within : (b : Bool) (z : ℤ) (p r m : ℕ) → magnitude Payable z ≤ m → magnitude Receivable z ≤ m → p ≤ m → r ≤ m → nat_abs (cond b z (with_sign z p r)) ≤ m
line_within true (pos n) p r m a b hp hr = a
line_within true (negsuc n) p r m a b hp hr = b
line_within false (pos zero) p r m a b hp hr = omega arith
line_within false (pos (suc n)) p r m a b hp hr = hp
line_within false (negsuc n) p r m a b hp hr = omega (arith, ints)

line_none : (b : Bool) (z : ℤ) (p r : ℕ) → z ≡ pos 0 → cond b z (with_sign z p r) ≡ pos 0
line_none true z p r e = e
line_none false z p r e = ap (λ v. with_sign v p r) e

line_stays : (b : Bool) (z x : ℤ) → b ≡ true → cond b z x ≡ z
line_stays b z x e = cond-true b z x e

-- the distance of a signed line is that of its share
near_payable : (b : Bool) (z : ℤ) (p r T A : ℕ) → 0 < cond b 0 (magnitude Payable z) → apart (p * T) (cond b 0 (magnitude Payable z) * A) < T
    → nat_abs (cond b z (with_sign z p r) *ℤ pos T -ℤ z *ℤ pos A) < T
near_payable true z p r T A h n = absurd (omega arith)
near_payable false (pos zero) p r T A h n = absurd (omega arith)
near_payable false (pos (suc m)) p r T A h n = omega (arith, ints)
near_payable false (negsuc m) p r T A h n = absurd (omega arith)

near_receivable : (b : Bool) (z : ℤ) (p r T A : ℕ) → 0 < cond b 0 (magnitude Receivable z) → apart (r * T) (cond b 0 (magnitude Receivable z) * A) < T
    → nat_abs (cond b z (with_sign z p r) *ℤ pos T -ℤ z *ℤ pos A) < T
near_receivable true z p r T A h n = absurd (omega arith)
near_receivable false (pos zero) p r T A h n = absurd (omega arith)
near_receivable false (pos (suc m)) p r T A h n = absurd (omega arith)
near_receivable false (negsuc m) p zero T A h n = let z = zero-mul T in omega (arith, ints)
near_receivable false (negsuc m) p (suc r) T A h n = omega (arith, ints)

-- ---- all lines

-- who has no weight has no share
abbrev Idle : Side → List Charge → List ℕ → Type 0
Idle s cs ps = (k : ℕ) → k < length cs → weight_on s (charge_at cs k) ≡ 0 → get_or ps k 0 ≡ 0

sum_lines : (cs : List Charge) (ps rs : List ℕ) → length ps ≡ length cs → length rs ≡ length cs → Idle Payable cs ps → Idle Receivable cs rs
    → together (lines_by cs ps rs) ≡ pos (fixed_part Payable cs + sum ps) -ℤ pos (fixed_part Receivable cs + sum rs)
sum_lines [] [] [] a b hp hr = refl
sum_lines [] (p ∷ ps) rs a b hp hr = absurd (omega arith)
sum_lines [] [] (r ∷ rs) a b hp hr = absurd (omega arith)
sum_lines (c ∷ cs) [] rs a b hp hr = absurd (omega arith)
sum_lines (c ∷ cs) (p ∷ ps) [] a b hp hr = absurd (omega arith)
sum_lines (c ∷ cs) (p ∷ ps) (r ∷ rs) a b hp hr =
    let here = line_parts c.fixed c.sum.paise p r (hp 0 (omega arith)) (hr 0 (omega arith)) in
    let rest = sum_lines cs ps rs (omega arith) (omega arith) (λ k h. hp (suc k) (omega arith)) (λ k h. hr (suc k) (omega arith)) in
    let fp = sum_by-cons (fixed_on Payable) c cs in
    let fr = sum_by-cons (fixed_on Receivable) c cs in
    let sp = sum_by-cons (λ x. x) p ps in
    let sr = sum_by-cons (λ x. x) r rs in
    omega (arith, ints)

charge_parts : (z : ℤ) → z ≡ pos (magnitude Payable z) -ℤ pos (magnitude Receivable z)
charge_parts (pos n) = omega (arith, ints)
charge_parts (negsuc n) = omega (arith, ints)

sum_charges : (cs : List Charge) → together (map (λ c. c.sum) cs) ≡ pos (total Payable cs) -ℤ pos (total Receivable cs)
sum_charges [] = refl
sum_charges (c ∷ cs) =
    let here = charge_parts c.sum.paise in
    let rest = sum_charges cs in
    let p = sum_by-cons (on Payable) c cs in
    let r = sum_by-cons (on Receivable) c cs in
    omega (arith, ints)

-- ---- the shares of a side

record Shared (s : Side) (cs : List Charge) (sh : List ℕ) : Type 0 where
  pub many : length sh ≡ length cs
  pub adds : fixed_part s cs + sum sh ≡ average_of cs
  pub idle : Idle s cs sh
  pub close : (k : ℕ) → k < length cs → 0 < adjustable s cs → apart (get_or sh k 0 * adjustable s cs) (weight_on s (charge_at cs k) * to_part s cs) < adjustable s cs

share_none : (x T w A : ℕ) → apart (x * T) (w * A) < T → w ≡ 0 → x ≡ 0
share_none zero T w A h e = refl
share_none (suc x) T w A h e =
    let t : w * A ≡ 0 = ap (λ v. v * A) e ∙ zero-mul A in
    let m = mul-le-mul {n₁ = 1} {m₁ = T} {n₂ = suc x} {m₂ = T} (omega arith) (omega arith) in
    absurd (omega arith)

weight_at : (s : Side) (cs : List Charge) (k : ℕ) → k < length cs → get_or (weights s cs) k 0 ≡ weight_on s (charge_at cs k)
weight_at s cs k h = get_or-map (weight_on s) cs k no_charge 0 h

module _ (g : ℕ → List ℕ → List ℕ) (fair : (amount : ℕ) (ws : List ℕ) → Asked amount ws → Parted amount ws (g amount ws)) where
  shared : (s : Side) (cs : List Charge) → length cs ≤ most_weights → total s cs ≤ most_money → average_of cs ≤ most_money → reaches s cs ≡ true → Shared s cs (shares_on g s cs)
  shared s cs few most avg reach =
      let ws = weights s cs in
      let parts = and_parts (leb (fixed_part s cs) (average_of cs)) (ltb 0 (adjustable s cs) || eqb (fixed_part s cs) (average_of cs)) reach in
      let under : fixed_part s cs ≤ average_of cs = leb-true (fixed_part s cs) (average_of cs) parts.0 in
      let many-ws : length ws ≡ length cs = length-map cs (weight_on s) in
      elim (cases_lt 0 (adjustable s cs)) [
        | inl some ↦
            let asked : Asked (to_part s cs) ws = record { amount_most = omega arith; few = omega arith; weighs = some; total_most = omega (arith, parts_of_total s cs) } in
            let p = fair (to_part s cs) ws asked in
            let e : shares_on g s cs ≡ g (to_part s cs) ws = cond-false (eqb (adjustable s cs) 0) ws (g (to_part s cs) ws) (ne_eqb (adjustable s cs) 0 (λ z. omega arith)) in
            let near : (k : ℕ) → k < length cs → apart (get_or (g (to_part s cs) ws) k 0 * adjustable s cs) (weight_on s (charge_at cs k) * to_part s cs) < adjustable s cs
            = λ k h. subst (λ w. apart (get_or (g (to_part s cs) ws) k 0 * adjustable s cs) (w * to_part s cs) < adjustable s cs) (weight_at s cs k h) (p.near k (omega arith)) in
            let is : Shared s cs (g (to_part s cs) ws) = record {
              many = p.as_many ∙ many-ws;
              adds = omega (arith, p.together);
              idle = λ k h z. share_none (get_or (g (to_part s cs) ws) k 0) (adjustable s cs) (weight_on s (charge_at cs k)) (to_part s cs) (near k h) z;
              close = λ k h _. near k h;
            } in
            subst (Shared s cs) (sym e) is
        | inr none ↦
            let e : shares_on g s cs ≡ ws = cond-true (eqb (adjustable s cs) 0) ws (g (to_part s cs) ws) (eq-eqb (adjustable s cs) 0 (omega arith)) in
            let level : fixed_part s cs ≡ average_of cs = elim (or_cases (ltb 0 (adjustable s cs)) (eqb (fixed_part s cs) (average_of cs)) parts.1) [
              | inl t ↦ absurd (omega (arith, ltb-true 0 (adjustable s cs) t))
              | inr t ↦ eqb-true (fixed_part s cs) (average_of cs) t
            ] in
            let is : Shared s cs ws = record {
              many = many-ws;
              adds = omega arith;
              idle = λ k h z. weight_at s cs k h ∙ z;
              close = λ k h some. absurd (omega arith);
            } in
            subst (Shared s cs) (sym e) is
      ]

  on_within : (s : Side) (cs : List Charge) (k : ℕ) → k < length cs → total s cs ≤ most_money → on s (charge_at cs k) ≤ most_money
  on_within s cs k h most = let t = get_or-le-sum_by (on s) cs k no_charge h in omega arith

  weighs : (s : Side) (cs : List Charge) (k : ℕ) → k < length cs → 0 < weight_on s (charge_at cs k) → 0 < adjustable s cs
  weighs s cs k h w =
      let t = get_or-le-sum_by (λ x. x) (weights s cs) k 0 (omega (arith, length-map cs (weight_on s))) in
      omega (arith, weight_at s cs k h)

  near_side : (cs : List Charge) (ps rs : List ℕ) → Shared Payable cs ps → Shared Receivable cs rs → (s : Side) (k : ℕ) → k < length cs → 0 < weight_on s (charge_at cs k)
      → distance s cs (line_of (charge_at cs k) (get_or ps k 0) (get_or rs k 0)) (charge_at cs k).sum < adjustable s cs
  near_side cs ps rs p r Payable k h w = near_payable (charge_at cs k).fixed (charge_at cs k).sum.paise (get_or ps k 0) (get_or rs k 0) (adjustable Payable cs) (to_part Payable cs) w (p.close k h (weighs Payable cs k h w))
  near_side cs ps rs p r Receivable k h w = near_receivable (charge_at cs k).fixed (charge_at cs k).sum.paise (get_or ps k 0) (get_or rs k 0) (adjustable Receivable cs) (to_part Receivable cs) w (r.close k h (weighs Receivable cs k h w))

  by_shares : (cs : List Charge) → length cs ≤ most_weights → total Payable cs ≤ most_money → total Receivable cs ≤ most_money → by_average cs ≡ true
      → Fair cs (lines_by cs (shares_on g Payable cs) (shares_on g Receivable cs)) (money (pos 0))
  by_shares cs few mp mr avg =
      let both = and_parts (reaches Payable cs) (reaches Receivable cs) avg in
      let ps = shares_on g Payable cs in
      let rs = shares_on g Receivable cs in
      let p : Shared Payable cs ps = shared Payable cs few mp (omega arith) both.0 in
      let r : Shared Receivable cs rs = shared Receivable cs few mr (omega arith) both.1 in
      let at : (k : ℕ) → k < length cs → line_at (lines_by cs ps rs) k ≡ line_of (charge_at cs k) (get_or ps k 0) (get_or rs k 0) = λ k h. lines_at cs ps rs k p.many r.many h in
      let under : (s : Side) (sh : List ℕ) → Shared s cs sh → (k : ℕ) → k < length cs → get_or sh k 0 ≤ most_money = λ s sh q k h. let t = get_or-le-sum_by (λ x. x) sh k 0 (omega (arith, q.many)) in omega (arith, q.adds) in
      record {
        as_many = length_lines cs ps rs p.many r.many;
        even = let t = sum_lines cs ps rs p.many r.many p.idle r.idle in omega (arith, ints, p.adds, r.adds);
        near = λ _ s k h w. subst (λ x. distance s cs x (charge_at cs k).sum < adjustable s cs) (sym (at k h)) (near_side cs ps rs p r s k h w);
        borne = λ _. refl;
        unshared = λ na. let z : ◌≡◌ {A = ℕ} 0 1 = cc in absurd (omega arith);
        stays = λ k h f. at k h ∙ ap money (line_stays (charge_at cs k).fixed (charge_at cs k).sum.paise (with_sign (charge_at cs k).sum.paise (get_or ps k 0) (get_or rs k 0)) f);
        nothing = λ k h z. at k h ∙ ap money (line_none (charge_at cs k).fixed (charge_at cs k).sum.paise (get_or ps k 0) (get_or rs k 0) (ap (λ x. x.paise) z));
        within = λ k h. subst (λ x. nat_abs x.paise ≤ most_money) (sym (at k h)) (line_within (charge_at cs k).fixed (charge_at cs k).sum.paise (get_or ps k 0) (get_or rs k 0) most_money (on_within Payable cs k h mp) (on_within Receivable cs k h mr) (under Payable ps p k h) (under Receivable rs r k h));
        within_reserve = omega arith;
      }

  by_charges : (cs : List Charge) → total Payable cs ≤ most_money → total Receivable cs ≤ most_money → by_average cs ≡ false
      → Fair cs (map (λ c. c.sum) cs) (money (pos (total Receivable cs) -ℤ pos (total Payable cs)))
  by_charges cs mp mr avg =
      let at : (k : ℕ) → k < length cs → line_at (map (λ c. c.sum) cs) k ≡ (charge_at cs k).sum = λ k h. get_or-map (λ c. c.sum) cs k no_charge (money (pos 0)) h in
      record {
        as_many = length-map cs (λ c. c.sum);
        even = let t = sum_charges cs in omega (arith, ints);
        near = λ av. let z : ◌≡◌ {A = ℕ} 0 1 = cc in absurd (omega arith);
        borne = λ av. let z : ◌≡◌ {A = ℕ} 0 1 = cc in absurd (omega arith);
        unshared = λ _. at;
        stays = λ k h _. at k h;
        nothing = λ k h z. at k h ∙ z;
        within = λ k h. subst (λ x. nat_abs x.paise ≤ most_money) (sym (at k h)) (line_within true (charge_at cs k).sum.paise 0 0 most_money (on_within Payable cs k h mp) (on_within Receivable cs k h mr) (omega arith) (omega arith));
        within_reserve = omega (arith, ints);
      }

  pub fair_day : (cs : List Charge) → length cs ≤ most_weights → total Payable cs ≤ most_money → total Receivable cs ≤ most_money → Fair cs (lines_of g cs) (reserve cs)
  fair_day cs few mp mr = elim (cases_Bool (by_average cs)) [
    | inl av ↦ subst (λ b. Fair cs (cond b (lines_by cs (shares_on g Payable cs) (shares_on g Receivable cs)) (map (λ c. c.sum) cs)) (money (cond b (pos 0) (pos (total Receivable cs) -ℤ pos (total Payable cs))))) (sym av) (by_shares cs few mp mr av)
    | inr na ↦ subst (λ b. Fair cs (cond b (lines_by cs (shares_on g Payable cs) (shares_on g Receivable cs)) (map (λ c. c.sum) cs)) (money (cond b (pos 0) (pos (total Receivable cs) -ℤ pos (total Payable cs))))) (sym na) (by_charges cs mp mr na)
  ]

  pub fair_whole : (cs : List Charge) → length cs ≤ most_weights → too_much cs ≡ false → Fair cs (lines_of g cs) (reserve cs)
  fair_whole cs few small =
      let parts = or_parts (ltb most_money (total Payable cs)) (ltb most_money (total Receivable cs)) small in
      fair_day cs few (ltb-false most_money (total Payable cs) parts.0) (ltb-false most_money (total Receivable cs) parts.1)
