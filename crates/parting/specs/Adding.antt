-- Laws of `adds` and `tally`. Assumes nothing.
use Rattle.std.specs.Prelude.{◌≡◌, ℕ, zero, suc, ◌+◌, ◌*◌, ◌<◌, ◌≤◌, Bool, true, false, cond, List, map, length, take, sum, sum_by, slice_index_or, refl}
use Rattle.std.proofs.Common.{sym, ap, ◌∙◌, inl, inr, add-one, add-zero, add-suc, mul-add, mul-zero, arith}
use Rattle.std.proofs.Math.Arith.{le-zero}
use Rattle.std.specs.List.{range_with_len}
use Rattle.std.proofs.lemmas.List.Sums.{sum_by_more}
use Rattle.std.proofs.lemmas.List.FromFn.{sum_by-map-range_with_len_more}
use Rattle.std.proofs.lemmas.List.{take_all}
use Rattle.std.proofs.lemmas.Bool.{cases_eq}
use Rattle.parting.specs.Places.{adds, tally}

pub adds_more : (f : ℕ → ℕ) (n : ℕ) → adds f (n + 1) ≡ adds f n + f n
adds_more f n = rw add-one refl

pub adds_same : (f g : ℕ → ℕ) (n : ℕ) → ((k : ℕ) → k < n → f k ≡ g k) → adds f n ≡ adds g n
adds_same f g zero h = refl
adds_same f g (suc n) h = omega (arith, adds_same f g n (λ k l. h k (omega arith)), h n (omega arith))

pub adds_le : (f g : ℕ → ℕ) (n : ℕ) → ((k : ℕ) → k < n → f k ≤ g k) → adds f n ≤ adds g n
adds_le f g zero h = omega arith
adds_le f g (suc n) h = omega (arith, adds_le f g n (λ k l. h k (omega arith)), h n (omega arith))

pub adds_on : (f : ℕ → ℕ) (i n : ℕ) → adds f (i + n) ≡ adds f i + adds (λ k. f (i + k)) n
adds_on f i zero = omega (arith, ap (adds f) (add-zero i))
adds_on f i (suc n) = omega (arith, ap (adds f) (add-suc i n), adds_on f i n)

pub adds_plus : (f g : ℕ → ℕ) (n : ℕ) → adds (λ k. f k + g k) n ≡ adds f n + adds g n
adds_plus f g zero = refl
adds_plus f g (suc n) = omega (arith, adds_plus f g n)

pub adds_times : (c : ℕ) (f : ℕ → ℕ) (n : ℕ) → adds (λ k. c * f k) n ≡ c * adds f n
adds_times c f zero = sym (mul-zero c)
adds_times c f (suc n) = omega (arith, adds_times c f n, mul-add c (adds f n) (f n))

-- one summand alone
pub at_le_adds : (f : ℕ → ℕ) (n k : ℕ) → k < n → f k ≤ adds f n
at_le_adds f zero k h = omega arith
at_le_adds f (suc n) k h = elim (cases_eq k n) [ inl e ↦ omega (arith, ap f e) | inr ne ↦ omega (arith, at_le_adds f n k (omega arith)) ]

pub adds_less : (f : ℕ → ℕ) (i n : ℕ) → i ≤ n → adds f i ≤ adds f n
adds_less f i zero h = omega (arith, ap (adds f) (le-zero h))
adds_less f i (suc n) h = elim (cases_eq i (suc n)) [ inl e ↦ omega (arith, ap (adds f) e) | inr ne ↦ omega (arith, adds_less f i n (omega arith)) ]

-- the sum over a list's front and over all of it, and of a list made by place
module _ {A : Type 0} (f : A → ℕ) (d : A) where
  pub adds_front : (ws : List A) (n : ℕ) → n ≤ length ws → sum_by f (take n ws) ≡ adds (λ k. f (slice_index_or ws k d)) n
  adds_front ws zero h = refl
  adds_front ws (suc n) h = omega (arith, rw add-one at (sum_by_more f ws n d h), adds_front ws n (omega arith))

  pub adds_list : (ws : List A) → sum_by f ws ≡ adds (λ k. f (slice_index_or ws k d)) (length ws)
  adds_list ws = sym (ap (sum_by f) (take_all (length ws) ws (omega arith))) ∙ adds_front ws (length ws) (omega arith)

pub adds_by_place : (f : ℕ → ℕ) (n : ℕ) → sum (map f (range_with_len 0 n)) ≡ adds f n
adds_by_place f zero = refl
adds_by_place f (suc n) = omega (arith, rw add-one at (sum_by-map-range_with_len_more (λ x. x) f 0 n n (omega arith)), adds_by_place f n)

-- ---- counts
one_if_le : (a b : Bool) → (a ≡ true → b ≡ true) → cond a 1 0 ≤ cond b 1 0
one_if_le true b f = rw (f refl) (omega arith)
one_if_le false b f = omega arith

pub tally_same : (p q : ℕ → Bool) (n : ℕ) → ((k : ℕ) → k < n → p k ≡ q k) → tally p n ≡ tally q n
tally_same p q n h = adds_same _ _ n (λ k l. ap (λ b. cond b 1 0) (h k l))

pub tally_le : (p q : ℕ → Bool) (n : ℕ) → ((k : ℕ) → k < n → p k ≡ true → q k ≡ true) → tally p n ≤ tally q n
tally_le p q n h = adds_le _ _ n (λ k l. one_if_le (p k) (q k) (h k l))

-- and as many, where none passes past the first n
pub tally_past : (p : ℕ → Bool) (n m : ℕ) → n ≤ m → ((k : ℕ) → n ≤ k → k < m → p k ≡ false) → tally p m ≡ tally p n
tally_past p n zero h none = ap (tally p) (sym (le-zero h))
tally_past p n (suc m) h none = elim (cases_eq n (suc m)) [
  | inl e ↦ ap (tally p) (sym e)
  | inr ne ↦ let z : ◌≡◌ {A = ℕ} (cond (p m) 1 0) 0 = ap (λ b. cond b 1 0) (none m (omega arith) (omega arith)) in omega (arith, z, tally_past p n m (omega arith) (λ k l b. none k l (omega arith)))
]

-- and fewer, where j passes one test and not the other
pub tally_lt : (p q : ℕ → Bool) (n j : ℕ) → ((k : ℕ) → k < n → p k ≡ true → q k ≡ true) → j < n → p j ≡ false → q j ≡ true → tally p n < tally q n
tally_lt p q zero j h l no-p yes-q = omega arith
tally_lt p q (suc n) j h l no-p yes-q =
    let le : tally p n ≤ tally q n = tally_le p q n (λ k l. h k (omega arith)) in
    elim (cases_eq j n) [
      | inl e ↦ let a : p n ≡ false = rw e at no-p in let b : q n ≡ true = rw e at yes-q in rw (a, b) (omega arith)
      | inr ne ↦ omega (arith, tally_lt p q n j (λ k l. h k (omega arith)) (omega arith) no-p yes-q, one_if_le (p n) (q n) (h n (omega arith)))
    ]

-- at most as many as there are
pub tally_most : (p : ℕ → Bool) (n : ℕ) → tally p n ≤ n
tally_most p zero = omega arith
tally_most p (suc n) = omega (arith, tally_most p n, one_if_le (p n) true (λ _. refl))
