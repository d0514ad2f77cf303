use Rattle.std.proofs.Common.{◌≡◌, drop}
use Rattle.protocol.specs.StepFunction.{stands_before_conflict}
use Rattle.hall.proofs.log.Log.stands_before_conflict.Given as goal

abbrev pub invariant-loop-i : goal.invariant-loop-i
invariant-loop-i g l = let f = stands_before_conflict g.S.Station.meaning.conflict l.n l.m in f (drop l.i l.self.records.now) ≡ f l.self.records.now
