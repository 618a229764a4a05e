-- A number has ten digits at most.
use Rattle.std.proofs.Common.{◌≡◌, ℕ, ◌+◌, ◌-◌, ◌*◌, ◌^◌, ◌<◌, ◌≤◌, leb, List, [], ◌∷◌, length, Some, None, ap, ◌∙◌, subst, pow-suc, add-one, arith}
use Rattle.cells.specs.Numbers.{is_digit, digits_after, number_of, most_number}
use Rattle.std.proofs.lemmas.Bool.Decides.{nat_tests}
use Rattle.std.proofs.lemmas.Bool.{cond_both, and_parts, leb-true}
use native.Mathlib.Nat.{pow-le-pow_right}

-- after i digits that wrote v
below : (cs : List ℕ) (v i n : ℕ) → v < 10 ^ i → digits_after v cs ≡ Some n → n < 10 ^ (i + length cs)
below [] v i n h = λ e. let p = ap (λ k. 10 ^ k) (let z : i + 0 ≡ i = omega arith in z) in let same : v ≡ n = cc in omega (arith, h, p)
below (c ∷ cs) v i n h =
    cond_both (is_digit c) (digits_after (v * 10 + (c - 48)) cs) None (λ o. o ≡ Some n → n < 10 ^ (i + length (c ∷ cs)))
    (λ d e.
    let hi = leb-true c 57 (and_parts (leb 48 c) (leb c 57) d).1 in
    let ten : 10 ^ (i + 1) ≡ 10 ^ i * 10 = ap (λ k. 10 ^ k) (add-one i) ∙ pow-suc 10 i in
    let r = below cs (v * 10 + (c - 48)) (i + 1) n (omega (arith, h, ten, hi)) e in
    let same : i + 1 + length cs ≡ i + length (c ∷ cs) = omega arith in
    subst (λ k. n < 10 ^ k) same r)
    (λ d e. cc)

pub number_small : (bs : List ℕ) (n : ℕ) → number_of bs ≡ Some n → n ≤ most_number
number_small bs n e =
    let b : length bs ≤ 10 → digits_after 0 bs ≡ Some n → n < 10 ^ 10 =
    λ few d. omega (arith, below bs 0 0 n (omega arith) d, pow-le-pow_right {n = 10} (omega arith) {i = 0 + length bs} {j = 10} (omega arith)) in
    grind (arith, nat_tests)
