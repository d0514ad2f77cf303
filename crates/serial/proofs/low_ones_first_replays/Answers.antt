use Rattle.serial.proofs.Theorems.{low_ones_first_replays}
use Rattle.serial.proofs.low_ones_first_replays.Goals as goal

pub returns : goal.returns
returns g c = low_ones_first_replays g.A.Actions.means g.A.Actions.good g.A.Actions.closed g.A.Actions.commutes
