use Rattle.serial.proofs.Theorems.{taking_back_replays}
use Rattle.serial.proofs.taking_back_replays.Goals as goal

pub returns : goal.returns
returns g c = taking_back_replays g.A.Actions.means g.A.Actions.good g.A.Actions.closed g.A.Actions.commutes g.A.Actions.restores
