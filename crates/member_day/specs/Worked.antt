-- The blocks that stretches of one direction make up. Assumes nothing.
use Rattle.std.specs.Prelude.{List, replicate}
use Rattle.std.specs.List.{flat_map}
use Rattle.member_day.specs.declared.direction.Direction.{Direction}
use Rattle.member_day.specs.declared.worked.Stretch.{Stretch}

abbrev pub laid_out : List Stretch → List Direction
laid_out ss = flat_map (λ s. replicate s.blocks s.direction) ss
