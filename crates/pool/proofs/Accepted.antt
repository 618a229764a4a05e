-- What the parts of a rule say of a call that is accepted. Assumes nothing.
use Rattle.std.proofs.Common.{◌≡◌, ℕ, ◌≤◌, Bool, true, false, cond, ℤ, pos, negsuc, ◌+ℤ◌, neg_ℤ, nat_abs, ◌≤ℤ◌, ◌<ℤ◌, Ok, Err, Result, refl, arith}
use Rattle.std.proofs.lemmas.Int.{ints}
use Rattle.std.proofs.lemmas.Bool.{true≢false, false≢true}
use Rattle.std.proofs.lemmas.Cmp.{int_ranked}
use Rattle.std.specs.Ordering.{MatchOrdering, int_cmp, is_lt}
use Rattle.std.specs.declared.cmp.Ordering.{Ordering}
use Rattle.std.specs.declared.cmp.Ordering.TheVariants.{Less, Equal, Greater}
use Rattle.quantities.specs.Limits.{within, most_money}
use Rattle.pool.specs.declared.refusal.Refusal.{Refusal}

-- a sentence that came before an accepted answer does not fit
pub passed : {X : Type 0} (fits : Bool) (refusal : Refusal) (next : Result X Refusal) (x : X) → cond fits (Err refusal) next ≡ Ok x → (fits ≡ false) × (next ≡ Ok x)
passed true refusal next x e = let z : ◌≡◌ {A = ℕ} 0 1 = cc in absurd (omega arith)
passed false refusal next x e = (refl, e)

ranked : (a b : ℤ) (r : Ordering) → MatchOrdering r (a <ℤ b) (a ≡ b) (b <ℤ a) → is_lt r ≡ false → b ≤ℤ a
ranked a b Less lt e = absurd (true≢false e)
ranked a b Equal eq e = omega (arith, ints)
ranked a b Greater gt e = omega (arith, ints)

-- what is not less is at most
pub not_less : (a b : ℤ) → is_lt (int_cmp a b) ≡ false → b ≤ℤ a
not_less a b h = ranked a b (int_cmp a b) (int_ranked a b (int_cmp a b) refl) h

-- a payment brings what an account owes, or what is due to it, nearer to nothing
pub nearer_in : (s p : ℤ) → p ≤ℤ s → within 1 most_money p ≡ true → nat_abs (s +ℤ neg_ℤ p) ≤ nat_abs s
nearer_in s (pos n) l w = omega (arith, ints)
nearer_in s (negsuc n) l w = absurd (false≢true w)

pub nearer_out : (s p : ℤ) → p ≤ℤ neg_ℤ s → within 1 most_money p ≡ true → nat_abs (s +ℤ p) ≤ nat_abs s
nearer_out s (pos n) l w = omega (arith, ints)
nearer_out s (negsuc n) l w = absurd (false≢true w)

pub more_cash : (cash p : ℤ) → pos 0 ≤ℤ cash → within 1 most_money p ≡ true → pos 0 ≤ℤ (cash +ℤ p)
more_cash cash (pos n) h w = omega (arith, ints)
more_cash cash (negsuc n) h w = absurd (false≢true w)
