-- A payment out that is due and that the cash holds leaves a sound book.
use Rattle.std.proofs.Common.{◌≡◌, true, neg_ℤ, ◌≤ℤ◌, sym, subst, arith, rules}
use Rattle.std.proofs.lemmas.Int.{ints}
use Rattle.quantities.specs.Limits.{within, most_money}
use Rattle.pool.specs.Sound.{Sound}
use Rattle.pool.specs.Standing.{sum_at}
use Rattle.pool.proofs.Accepted.{not_less, nearer_out}
use Rattle.pool.proofs.Sounds.{cash_most, paid_sound, paid_is}
use Rattle.pool.proofs.pool.Pool.pay_out.Goals as goal

pub sub-self-requires : goal.sub-self-requires
sub-self-requires g c =
    let most = cash_most c.args.self.now.book c.args.self.now.sound in
    let fits : within 1 most_money c.in_ok-creditor.payment.paise ≡ true = search rules in
    search rules

pub invariant_of-self : goal.invariant_of-self
invariant_of-self g c =
    let b = c.args.self.now.book in
    let s = c.args.self.now.sound in
    let k = c.in_ok-creditor.creditor.place in
    let x = c.in_ok-creditor.payment.paise in
    let fits : within 1 most_money c.in_ok-creditor.payment.paise ≡ true = search rules in
    let due : c.sub-due.result.paise ≡ neg_ℤ (sum_at c.args.self.now.book.accounts.table c.in_ok-creditor.creditor.place) =
    (let q = c.sub-due.ensures in let a = c.sum.ensures.answer in omega (arith, ints)) in
    let owed : c.in_ok-creditor.payment.paise ≤ℤ neg_ℤ (sum_at c.args.self.now.book.accounts.table c.in_ok-creditor.creditor.place) =
    (let l = not_less c.sub-due.result.paise x (sym c.if-lt.ensures) in omega (arith, ints)) in
    let holds = not_less b.cash.paise x (sym c.if-lt-2.ensures) in
    let after = paid_is b c.raise.new.self.table c.sub-self.result k x (neg_ℤ x) c.raise.ensures.after (let q = c.sub-self.ensures in omega (arith, ints)) in
    record { sound = subst Sound (sym after) (paid_sound b k x (neg_ℤ x) s c.in_ok-creditor.creditor.within (omega (arith, ints)) (nearer_out _ x owed fits) (omega (arith, ints))) }
