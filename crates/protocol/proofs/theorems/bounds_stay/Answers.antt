use Rattle.protocol.proofs.EveryRun.{stays_bounded}
use Rattle.protocol.proofs.theorems.bounds_stay.Goals as goal

pub returns : goal.returns
returns g c = stays_bounded g.S.Station.meaning
