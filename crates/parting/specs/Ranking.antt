-- In a strict order of the numbers below n, exactly m have a rank below m. Assumes nothing.
use Rattle.std.specs.Prelude.{◌≡◌, ℕ, zero, suc, ◌-◌, ◌<◌, ◌≤◌, Bool, true, false, cond, ltb, ◌≢◌, nat_lt}
use Rattle.std.proofs.Common.{ap, inl, inr, arith}
use Rattle.std.proofs.lemmas.Bool.{cases_Bool, cases_lt, lt-ltb, le-ltb}
use Rattle.std.proofs.lemmas.Bool.Decides.{nat_tests}
use Rattle.parting.specs.Places.{tally}
use Rattle.parting.specs.LargestRemainder.{precedes}
use Rattle.parting.specs.Adding.{tally_le, tally_lt, tally_same, tally_most}

-- `p k j` says that j comes before k.
pub record Ordered (p : ℕ → ℕ → Bool) : Type 0 where
  pub one_way : (k j : ℕ) → p k j ≡ true → p j k ≡ false
  pub either : (k j : ℕ) → p k j ≡ false → (j ≢ k) → p j k ≡ true
  pub chain : (k j i : ℕ) → p k j ≡ true → p j i ≡ true → p k i ≡ true

pub by_remainder : (rest : ℕ → ℕ) → Ordered (precedes rest)
by_remainder rest = record {
  one_way = λ k j h. grind (arith, nat_tests);
  either = λ k j h ne. grind (arith, nat_tests);
  chain = λ k j i h g. grind (arith, nat_tests);
}

module _ (p : ℕ → ℕ → Bool) (o : Ordered p) where
  never_self : (k : ℕ) → p k k ≡ false
  never_self k = elim (cases_Bool (p k k)) [ inl e ↦ o.one_way k k e | inr e ↦ e ]

  -- those before j, and j, come before k where j does
  rank_le : (n j k : ℕ) → p k j ≡ true → tally (p j) n ≤ tally (p k) n
  rank_le n j k h = tally_le (p j) (p k) n (λ i l e. o.chain k j i h e)

  rank_lt : (n j k : ℕ) → j < n → p k j ≡ true → tally (p j) n < tally (p k) n
  rank_lt n j k l h = tally_lt (p j) (p k) n j (λ i l e. o.chain k j i h e) l (never_self j) h

  -- with one number more: it comes before the m-th, which gives up its place, or it does not
  takes : (n m k : ℕ) → k < n → tally (p n) n < m → nat_lt (tally (p k) (suc n)) m ≡ nat_lt (tally (p k) n) (m - 1)
  takes n m k l h = elim (cases_Bool (p k n)) [
    | inl e ↦ rw e (grind (arith, nat_tests))
    | inr e ↦ let r : tally (p k) n < tally (p n) n = rank_lt n k n l (o.either k n e (λ e. omega arith)) in rw e (grind (arith, nat_tests))
  ]

  leaves : (n m k : ℕ) → k < n → m ≤ tally (p n) n → nat_lt (tally (p k) (suc n)) m ≡ nat_lt (tally (p k) n) m
  leaves n m k l h = elim (cases_Bool (p k n)) [
    | inl e ↦ let r : tally (p n) n ≤ tally (p k) n = rank_le n n k e in rw e (grind (arith, nat_tests))
    | inr e ↦ rw e (grind (arith, nat_tests))
  ]

  pub first_ranks : (n m : ℕ) → m ≤ n → tally (λ k. ltb (tally (p k) n) m) n ≡ m
  first_ranks zero m h = omega arith
  first_ranks (suc n) m h = elim (cases_lt (tally (p n) n) m) [
    | inl l ↦
        let same : tally (λ k. ltb (tally (p k) (suc n)) m) n ≡ tally (λ k. ltb (tally (p k) n) (m - 1)) n = tally_same _ _ n (λ k b. takes n m k b l) in
        let own : ltb (tally (p n) (suc n)) m ≡ true = rw (never_self n) (lt-ltb _ _ (omega arith)) in
        let one : ◌≡◌ {A = ℕ} (cond (nat_lt (tally (p n) (suc n)) m) 1 0) 1 = ap (λ b. cond b 1 0) own in
        omega (arith, same, one, first_ranks n (m - 1) (omega arith))
    | inr g ↦
        let same : tally (λ k. ltb (tally (p k) (suc n)) m) n ≡ tally (λ k. ltb (tally (p k) n) m) n = tally_same _ _ n (λ k b. leaves n m k b g) in
        let own : ltb (tally (p n) (suc n)) m ≡ false = rw (never_self n) (le-ltb _ _ (omega arith)) in
        let none : ◌≡◌ {A = ℕ} (cond (nat_lt (tally (p n) (suc n)) m) 1 0) 0 = ap (λ b. cond b 1 0) own in
        omega (arith, same, none, first_ranks n m (omega (arith, tally_most (p n) n)))
  ]
