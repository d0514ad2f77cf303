use Rattle.std.proofs.Common.{◌≡◌, ◌++◌, map, take, drop}
use Rattle.protocol.specs.Log.{committed_under}
use Rattle.hall.proofs.tables.Tables.conclude.Given as goal

abbrev pub invariant-loop-r : goal.invariant-loop-r
invariant-loop-r g l = l.r-items ≡ map (committed_under l.p.start l.n) (take l.r-index l.initial.r-items) ++ drop l.r-index l.initial.r-items
