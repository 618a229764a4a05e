-- An enrolled member leaves a sound book.
use Rattle.pool.proofs.Sounds.{enrolled_sound}
use Rattle.pool.proofs.pool.Pool.enrol.Goals as goal

pub invariant_of-self : goal.invariant_of-self
invariant_of-self g c = record { sound = enrolled_sound c.args.self.now.book c.in_ok-kind.kind c.args.self.now.sound c.if-place-ge-MEMBERS.false }
