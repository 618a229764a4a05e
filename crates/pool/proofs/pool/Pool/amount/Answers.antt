-- A regional amount leaves a sound book.
use Rattle.std.proofs.Common.{◌<◌, arith}
use Rattle.pool.specs.Tables.{with_amount}
use Rattle.pool.proofs.Sounds.{member_sound}
use Rattle.pool.proofs.pool.Pool.amount.Goals as goal

pub invariant_of-self : goal.invariant_of-self
invariant_of-self g c =
    let s = c.args.self.now.sound in
    let m = c.in_ok-place.place in
    let lt : c.in_ok-place.place < c.args.self.now.book.count = c.in_ok-place.ensures.found.1 in
    record { sound = member_sound c.args.self.now.book m (with_amount c.in_ok-amount.amount) s lt (s.long m (omega (arith, s.few))) (s.fine m) }
