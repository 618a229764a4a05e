-- The fresh book is sound.
use Rattle.std.proofs.Common.{sym, subst}
use Rattle.pool.specs.Sound.{Sound}
use Rattle.pool.proofs.Sounds.{fresh_sound}
use Rattle.pool.proofs.pool.Pool.new.Goals as goal

pub invariant_of-result : goal.invariant_of-result
invariant_of-result g c = record { sound = subst Sound (sym c.new.ensures.answer) fresh_sound }
