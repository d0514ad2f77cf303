use Rattle.serial.proofs.Theorems.{sorting_by_rank_replays}
use Rattle.serial.proofs.sorting_by_rank_replays.Goals as goal

pub returns : goal.returns
returns g c = sorting_by_rank_replays g.A.Actions.means g.A.Actions.good g.A.Actions.closed g.A.Actions.commutes
