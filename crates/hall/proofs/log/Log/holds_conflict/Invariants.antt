use Rattle.std.proofs.Common.{◌≡◌, drop}
use Rattle.protocol.specs.StepFunction.{holds_conflict}
use Rattle.hall.proofs.log.Log.holds_conflict.Given as goal

abbrev pub invariant-loop-i : goal.invariant-loop-i
invariant-loop-i g l = let f = holds_conflict g.S.Station.meaning.conflict l.n l.activity in f (drop l.i l.self.records.now) ≡ f (drop l.from l.self.records.now)
