-- A day opened later than all before leaves a sound book.
use Rattle.std.proofs.Common.{◌≤◌, true, List, Option, map, pos, sym, ap, ◌∙◌, subst, rules}
use Rattle.member_day.specs.declared.entries.GridEntry.{GridEntry}
use Rattle.day.specs.declared.member.Member.{Member}
use Rattle.pool.specs.Rules.{most_day}
use Rattle.pool.specs.Sound.{Sound}
use Rattle.pool.specs.Tables.{cleared}
use Rattle.pool.specs.declared.book.Book.{Book}
use Rattle.pool.proofs.Sounds.{opened_sound}
use Rattle.pool.proofs.pool.Pool.open.Goals as goal

pub invariant_of-self : goal.invariant_of-self
invariant_of-self g c =
    let b = c.args.self.now.book in
    let day = c.in_ok-day.day in
    let dated : c.in_ok-day.day ≤ most_day = search rules in
    let begun : List Member → List (Option GridEntry) → Book = λ ms gs. record { members = ms; count = b.count; grid = gs; day = day; opened = true; accounts = b.accounts; cash = b.cash } in
    let after = ap (λ ms. begun ms c.no_grid_rows-self.result) c.clear_all.ensures.after ∙ ap (begun (map cleared b.members)) c.no_grid_rows-self.ensures.answer in
    record { sound = subst Sound (sym after) (opened_sound b (pos day) c.args.self.now.sound c.in_ok-must_be_closed.ensures.answer c.if-day-self.false dated) }
