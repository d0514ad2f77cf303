use Rattle.serial.proofs.Theorems.{sorting_replays}
use Rattle.serial.proofs.sorting_replays.Goals as goal

pub returns : goal.returns
returns g c = sorting_replays g.A.Actions.means g.A.Actions.good g.A.Actions.closed g.A.Actions.commutes
