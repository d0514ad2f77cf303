use Rattle.std.proofs.Common.{◌≡◌, drop}
use Rattle.protocol.specs.Log.{own}
use Rattle.protocol.specs.StepFunction.{holds_any_conflict}
use Rattle.hall.proofs.log.Log.holds_any_conflict.Given as goal

abbrev pub invariant-loop-i : goal.invariant-loop-i
invariant-loop-i g l = let f = holds_any_conflict g.S.Station.meaning.conflict l.n l.self.records.now in f (own l.m (drop l.i l.self.records.now)) ≡ f (own l.m (drop l.from l.self.records.now))
