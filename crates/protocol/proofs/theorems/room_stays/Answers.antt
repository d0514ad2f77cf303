use Rattle.protocol.proofs.EveryRun.{has_room}
use Rattle.protocol.proofs.theorems.room_stays.Goals as goal

pub returns : goal.returns
returns g c = has_room g.S.Station.meaning
