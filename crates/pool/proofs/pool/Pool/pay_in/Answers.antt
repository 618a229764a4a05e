-- A payment in that the account owes leaves a sound book.
use Rattle.std.proofs.Common.{◌≡◌, true, neg_ℤ, ◌≤ℤ◌, sym, ap, ◌∙◌, subst, arith, rules}
use Rattle.std.proofs.lemmas.Int.{ints}
use Rattle.std.specs.Ordering.{int_cmp, is_lt}
use Rattle.quantities.specs.Limits.{within, most_money}
use Rattle.pool.specs.Sound.{Sound}
use Rattle.pool.specs.Standing.{sum_at}
use Rattle.pool.proofs.Accepted.{not_less, nearer_in, more_cash}
use Rattle.pool.proofs.Sounds.{cash_most, paid_sound, paid_is}
use Rattle.pool.proofs.pool.Pool.pay_in.Goals as goal

pub add-self-requires : goal.add-self-requires
add-self-requires g c =
    let most = cash_most c.args.self.now.book c.args.self.now.sound in
    let fits : within 1 most_money c.in_ok-debtor.payment.paise ≡ true = search rules in
    search rules

pub invariant_of-self : goal.invariant_of-self
invariant_of-self g c =
    let b = c.args.self.now.book in
    let s = c.args.self.now.sound in
    let k = c.in_ok-debtor.debtor.place in
    let x = c.in_ok-debtor.payment.paise in
    let fits : within 1 most_money c.in_ok-debtor.payment.paise ≡ true = search rules in
    let owed : c.in_ok-debtor.payment.paise ≤ℤ sum_at c.args.self.now.book.accounts.table c.in_ok-debtor.debtor.place =
    not_less _ x (ap (λ z. is_lt (int_cmp z x)) (sym c.sum.ensures.answer) ∙ sym c.if-lt.ensures) in
    let after = paid_is b c.lower.new.self.table c.add-self.result k (neg_ℤ x) x c.lower.ensures.after c.add-self.ensures in
    record { sound = subst Sound (sym after) (paid_sound b k (neg_ℤ x) x s c.in_ok-debtor.debtor.within (omega (arith, ints)) (nearer_in _ x owed fits) (more_cash _ x s.cash_least fits)) }
