-- What a change of one account and the posting of lines do to accounts and their total. Assumes nothing.
use Rattle.std.proofs.Common.{◌≡◌, ℕ, zero, suc, ◌+◌, ◌*◌, ◌<◌, ◌≤◌, true, false, cond, eqb, List, [], ◌∷◌, length, take, ℤ, ◌+ℤ◌, nat_abs, sym, refl, ap, subst, inl, inr, suc-mul, add-one, arith}
use Rattle.std.proofs.lemmas.List.{get_or-set_same, get_or-set_other}
use Rattle.std.proofs.lemmas.Int.{ints}
use Rattle.std.proofs.lemmas.Bool.{cases_eq, eq-eqb, ne_eqb}
use Rattle.day.specs.declared.record.Record.{Record}
use Rattle.pool.specs.Standing.{owing, sum_at, added, total, posted, line_at, sum_of_lines}
use Rattle.pool.specs.declared.accounts.Account.{Account}

pub total_added : (xs : List Account) (k : ℕ) (x : ℤ) → k < length xs → total (added xs k x) ≡ total xs +ℤ x
total_added [] k x h = absurd (omega arith)
total_added (a ∷ xs) zero x h = omega (arith, ints)
total_added (a ∷ xs) (suc k) x h = let r : total (added xs k x) ≡ total xs +ℤ x = total_added xs k x (omega arith) in omega (arith, ints)

pub sum_at_added : (xs : List Account) (k j : ℕ) (x : ℤ) → k < length xs → sum_at (added xs k x) j ≡ cond (eqb j k) (sum_at xs j +ℤ x) (sum_at xs j)
sum_at_added xs k j x h = elim (cases_eq j k) [
  | inl e ↦ let t : eqb j k ≡ true = eq-eqb j k e in rw (t, e) (ap (λ a. a.sum.paise) (get_or-set_same xs k _ _ h))
  | inr ne ↦ let t : eqb j k ≡ false = ne_eqb j k ne in rw t (ap (λ a. a.sum.paise) (get_or-set_other xs k j _ _ ne))
]

-- every account stays within a limit where the changed one does
pub within_added : (most n : ℕ) (xs : List Account) (k : ℕ) (x : ℤ) → k < length xs →
    ((j : ℕ) → j < n → nat_abs (sum_at xs j) ≤ most) → nat_abs (sum_at xs k +ℤ x) ≤ most →
    (j : ℕ) → j < n → nat_abs (sum_at (added xs k x) j) ≤ most
within_added most n xs k x h all here j lt = elim (cases_eq j k) [
  | inl e ↦ let s : sum_at (added xs k x) j ≡ sum_at xs k +ℤ x = rw e (ap (λ a. a.sum.paise) (get_or-set_same xs k _ _ h)) in subst (λ z. nat_abs z ≤ most) (sym s) here
  | inr ne ↦ let s : sum_at (added xs k x) j ≡ sum_at xs j = ap (λ a. a.sum.paise) (get_or-set_other xs k j _ _ ne) in subst (λ z. nat_abs z ≤ most) (sym s) (all j lt)
]

-- the total of accounts that are each within a limit
pub total_within : (most : ℕ) (xs : List Account) → ((k : ℕ) → k < length xs → nat_abs (sum_at xs k) ≤ most) → nat_abs (total xs) ≤ length xs * most
total_within most [] all = omega arith
total_within most (a ∷ xs) all =
    let r : nat_abs (total xs) ≤ length xs * most = total_within most xs (λ k h. all (suc k) (omega arith)) in
    let f : nat_abs a.sum.paise ≤ most = all 0 (omega arith) in
    let m : suc (length xs) * most ≡ length xs * most + most = suc-mul (length xs) most in
    omega (arith, ints)

pub length_posted : (xs : List Account) (rs : List Record) → length (posted xs rs) ≡ length xs
length_posted [] rs = refl
length_posted (a ∷ xs) [] = refl
length_posted (a ∷ xs) (r ∷ rs) = ap suc (length_posted xs rs)

posted_suc : (xs : List Account) (rs : List Record) (k : ℕ) → k < length xs → k < length rs → posted xs (take (suc k) rs) ≡ added (posted xs (take k rs)) k (line_at rs k)
posted_suc [] rs k h j = absurd (omega arith)
posted_suc (a ∷ xs) [] k h j = absurd (omega arith)
posted_suc (a ∷ []) (r ∷ rs) zero h j = refl
posted_suc (a ∷ (b ∷ xs)) (r ∷ rs) zero h j = refl
posted_suc (a ∷ xs) (r ∷ rs) (suc k) h j = ap (λ l. owing (a.sum.paise +ℤ r.line.paise) ∷ l) (posted_suc xs rs k (omega arith) (omega arith))

pub posted_more : (xs : List Account) (rs : List Record) (k : ℕ) → k < length xs → k < length rs → posted xs (take (k + 1) rs) ≡ added (posted xs (take k rs)) k (line_at rs k)
posted_more xs rs k h j = rw add-one (posted_suc xs rs k h j)

-- an account whose line is still to come is as it was
pub not_yet : (xs : List Account) (rs : List Record) (k : ℕ) → sum_at (posted xs (take k rs)) k ≡ sum_at xs k
not_yet [] rs k = refl
not_yet (a ∷ xs) [] zero = refl
not_yet (a ∷ xs) [] (suc k) = refl
not_yet (a ∷ xs) (r ∷ rs) zero = refl
not_yet (a ∷ xs) (r ∷ rs) (suc k) = not_yet xs rs k

pub sum_at_posted : (xs : List Account) (rs : List Record) (k : ℕ) → k < length xs → sum_at (posted xs rs) k ≡ sum_at xs k +ℤ line_at rs k
sum_at_posted [] rs k h = absurd (omega arith)
sum_at_posted (a ∷ xs) [] zero h = omega (arith, ints)
sum_at_posted (a ∷ xs) [] (suc k) h = omega (arith, ints)
sum_at_posted (a ∷ xs) (r ∷ rs) zero h = refl
sum_at_posted (a ∷ xs) (r ∷ rs) (suc k) h = sum_at_posted xs rs k (omega arith)

pub total_posted : (xs : List Account) (rs : List Record) → length rs ≡ length xs → total (posted xs rs) ≡ total xs +ℤ sum_of_lines rs
total_posted [] [] e = refl
total_posted [] (r ∷ rs) e = absurd (omega arith)
total_posted (a ∷ xs) [] e = absurd (omega arith)
total_posted (a ∷ xs) (r ∷ rs) e = let t : total (posted xs rs) ≡ total xs +ℤ sum_of_lines rs = total_posted xs rs (omega arith) in omega (arith, ints)
