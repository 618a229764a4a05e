-- A reading within its limits leaves a sound book.
use Rattle.std.proofs.Common.{◌≡◌, ◌<◌, true, set, Some, None, sym, ap, ◌∙◌, subst, arith}
use Rattle.std.proofs.lemmas.List.{length-set}
use Rattle.member_day.specs.Entries.{blocks}
use Rattle.pool.specs.Sound.{Sound, reading_fine}
use Rattle.day.specs.Members.{member_at}
use Rattle.pool.specs.Tables.{with_reading}
use Rattle.pool.proofs.Members.{set_at}
use Rattle.pool.proofs.Sounds.{member_sound}
use Rattle.pool.proofs.pool.Pool.reading.Goals as goal

pub invariant_of-self : goal.invariant_of-self
invariant_of-self g c =
    let b = c.args.self.now.book in
    let s = c.args.self.now.sound in
    let m = c.in_ok-place.place in
    let block = c.in_ok-block.block.place in
    let row = c.in_ok-row.row in
    let found = c.in_ok-place.ensures.found in
    let lk : c.in_ok-block.block.place < blocks = c.in_ok-block.block.within in
    let x = member_at b.members m in
    let lt : c.in_ok-place.place < c.args.self.now.book.count = found.1 in
    let fits = subst (λ k. reading_fine k (Some row) ≡ true) (sym found.2) c.in_ok-row.ensures.fine in
    let long = s.long m (omega (arith, s.few)) in
    let after = ap (λ y. record { members = set b.members m y; count = b.count; grid = b.grid; day = b.day; opened = b.opened; accounts = b.accounts; cash = b.cash }) c.put_reading.ensures.after in
    record {
      sound = subst Sound (sym after) (member_sound b m (with_reading block row) s found.1
          (length-set x.readings block (Some row) ∙ long)
          (λ k. set_at x.readings block (Some row) None k (λ e. reading_fine x.kind e ≡ true) (omega arith) fits (s.fine m k)));
    }
