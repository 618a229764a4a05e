-- One line more stands on its account.
use Rattle.std.proofs.Common.{◌≡◌, ◌<◌, ◌+ℤ◌, sym, ap, ◌∙◌, length, subst, arith, rules, w64, SFits}
use Rattle.day.specs.Records.{record_count}
use Rattle.pool.specs.Standing.{sum_at, added, line_at}
use Rattle.pool.proofs.Totals.{posted_more, not_yet}
use Rattle.pool.proofs.accounts.Accounts.post.Goals as goal

pub raise-requires : goal.raise-requires
raise-requires c =
    let k = c.loop-place.place in
    let rs = c.args.records.now in
    let lt : k < record_count = omega arith in
    let here : sum_at c.loop-place.self.table k ≡ sum_at c.args.self.now.table k = ap (λ l. sum_at l k) c.loop-place.invariant ∙ not_yet c.args.self.now.table rs k in
    record { fits = subst (λ z. SFits w64 (z +ℤ line_at rs k)) (sym here) (c.requires.fits k lt) }

pub loop-place-preserved : goal.loop-place-preserved
loop-place-preserved c =
    let k = c.loop-place.place in
    let rs = c.args.records.now in
    let n : length c.args.self.now.table ≡ 17 = search rules in
    c.raise.ensures.after ∙ (ap (λ l. added l k (line_at rs k)) c.loop-place.invariant ∙ sym (posted_more c.args.self.now.table rs k (omega arith) (omega (arith, c.requires.as_many))))
