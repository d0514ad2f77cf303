use Rattle.std.proofs.Common.{◌≡◌, ◌++◌, map, take, drop, vec_items}
use Rattle.hall.specs.Claims.{told, marked}
use Rattle.hall.proofs.tables.Tables.mark.Given as goal

abbrev pub invariant-loop-q : goal.invariant-loop-q
invariant-loop-q g l = l.q-items ≡ map (marked (told g.S.Station.meaning.conflict (vec_items l.fn.self.log) l.c)) (take l.q-index l.initial.q-items) ++ drop l.q-index l.initial.q-items
