-- A day that is shared out is fair.
use Rattle.std.proofs.Common.{◌≡◌, subst, sym}
use Rattle.sharing.specs.Laws.{Fair}
use Rattle.sharing.specs.Shares.{lines_of, reserve}
use Rattle.sharing.proofs.FairDay.{fair_day}
use Rattle.sharing.proofs.share.share_out.Goals as goal

pub returns-clause-fair : goal.returns-clause-fair
returns-clause-fair g c _ =
    let cs = c.args.charges.now in
    let both = c.in_ok-both.both in
    let same : both.charges.now ≡ cs = c.in_ok-both.ensures.answer in
    let fair = fair_day (g.R.PartingRule.shares c.args.rule.now) (g.met.R.PartingRule.fair c.args.rule.now) both.charges.now both.few both.payable_summed.within both.receivable_summed.within in
    subst (λ ls. Fair cs ls (reserve cs)) (sym c.share.ensures.lines) (subst (λ xs. Fair xs (lines_of (g.R.PartingRule.shares c.args.rule.now) both.charges.now) (reserve xs)) same fair)
