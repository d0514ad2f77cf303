use Rattle.std.proofs.Common.{◌≡◌, ◌++◌, map, take, drop}
use Rattle.hall.specs.Claims.{put}
use Rattle.hall.proofs.tables.Tables.relocate.Given as goal

abbrev pub invariant-loop-q : goal.invariant-loop-q
invariant-loop-q g l = l.q-items ≡ map (put l.moved) (take l.q-index l.initial.q-items) ++ drop l.q-index l.initial.q-items
